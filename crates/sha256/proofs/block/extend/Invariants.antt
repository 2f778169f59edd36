use Rattle.std.proofs.Common.{◌≡◌, ◌-◌}
use Rattle.sha256.specs.Block.{extended}
use Rattle.sha256.proofs.block.extend.Given as goal

abbrev pub invariant-loop-t : goal.invariant-loop-t
invariant-loop-t l = l.w ≡ extended (l.t - 16) l.initial.w
