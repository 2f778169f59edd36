use Rattle.sha256.proofs.Roots.{roots}
use Rattle.sha256.proofs.the_constants_are_root_fractions.Goals as goal

pub returns : goal.returns
returns c = roots
