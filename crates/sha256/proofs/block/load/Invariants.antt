use Rattle.std.proofs.Common.{◌≡◌, replicate}
use Rattle.sha256.specs.Block.{words}
use Rattle.sha256.proofs.block.load.Given as goal

abbrev pub invariant-loop-i : goal.invariant-loop-i
invariant-loop-i l = l.w ≡ words l.i l.block (replicate 64 0)
