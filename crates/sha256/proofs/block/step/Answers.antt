use Rattle.sha256.specs.Block.{stepped}
use Rattle.sha256.proofs.block.step.Goals as goal

pub returns : goal.returns
unfolding stepped
returns c = simp (c.big_sigma.ensures, c.choose.ensures, c.big_sigma-2.ensures, c.majority.ensures)
