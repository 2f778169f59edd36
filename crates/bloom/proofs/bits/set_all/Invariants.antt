use Rattle.std.proofs.Common.{◌≡◌}
use Rattle.bloom.specs.Bits.{ahead}
use Rattle.bloom.proofs.Storing.{Underway}
use Rattle.bloom.proofs.bits.set_all.Given as goal

abbrev pub invariant-loop-at : goal.invariant-loop-at
invariant-loop-at g l =
    (goal.iterator-loop-at g).can_next l.at-iterator × (goal.iterator-loop-at g).is_finite l.at-iterator × (l.at-iterator.bits ≡ l.fn.bits)
    × Underway g.W.Words.stores g.W.Words.words l.initial.memory l.fn.bits l.fn.f l.fn.k l.memory
    (ahead l.at-iterator.bits l.at-iterator.step l.at-iterator.at l.at-iterator.left)
