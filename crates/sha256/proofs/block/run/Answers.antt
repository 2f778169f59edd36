use Rattle.std.proofs.Common.{refl, add-one}
use Rattle.sha256.specs.Block.{rounds}
use Rattle.sha256.proofs.block.run.Goals as goal

pub loop-i-init : goal.loop-i-init
unfolding rounds
loop-i-init c = refl

pub loop-i-preserved : goal.loop-i-preserved
unfolding rounds
loop-i-preserved c = simp (add-one, ← c.loop-i.invariant, c.step-s.ensures, c.round_constant.ensures)
