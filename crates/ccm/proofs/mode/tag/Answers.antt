use Rattle.ccm.specs.Mode.{tag_of}
use Rattle.ccm.proofs.mode.tag.Goals as goal

pub returns : goal.returns
unfolding tag_of
returns c = simp (c.xor.ensures, c.mac.ensures, c.encrypt_block.ensures, c.headed.ensures)
