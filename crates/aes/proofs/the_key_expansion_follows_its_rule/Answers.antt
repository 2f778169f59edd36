use Rattle.aes.proofs.Following.{follows}
use Rattle.aes.proofs.the_key_expansion_follows_its_rule.Goals as goal

pub returns : goal.returns
returns c = follows
