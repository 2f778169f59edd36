use Rattle.std.proofs.Common.{◌≡◌}
use Rattle.sha256.specs.Block.{rounds}
use Rattle.sha256.proofs.block.run.Given as goal

abbrev pub invariant-loop-i : goal.invariant-loop-i
invariant-loop-i l = l.s ≡ rounds l.i l.w l.initial.s
