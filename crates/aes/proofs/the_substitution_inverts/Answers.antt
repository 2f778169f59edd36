use Rattle.aes.proofs.Inverses.{inverts}
use Rattle.aes.proofs.the_substitution_inverts.Goals as goal

pub returns : goal.returns
returns c = inverts
