use Rattle.std.proofs.Common.{◌≡◌}
use lib.Seq.{paste}
use Rattle.own_parts.specs.Shifting.{shifted}
use Rattle.own_parts.proofs.shift.add_key.Given as goal

abbrev pub invariant-loop-i : goal.invariant-loop-i
invariant-loop-i l = l.out ≡ paste l.initial.out 0 (shifted l.key l.content) l.i
