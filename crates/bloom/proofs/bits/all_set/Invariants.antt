use Rattle.std.proofs.Common.{◌≡◌}
use Rattle.std.specs.List.{list_all}
use Rattle.bloom.specs.Bits.{bit, ahead, all_set}
use Rattle.bloom.proofs.bits.all_set.Given as goal

abbrev pub invariant-loop-at : goal.invariant-loop-at
invariant-loop-at g l =
    (goal.iterator-loop-at g).can_next l.at-iterator × (goal.iterator-loop-at g).is_finite l.at-iterator × (l.at-iterator.bits ≡ l.fn.bits)
    × (list_all (bit (g.W.Words.words l.memory)) (ahead l.at-iterator.bits l.at-iterator.step l.at-iterator.at l.at-iterator.left)
    ≡ all_set (g.W.Words.words l.memory) l.fn.bits l.fn.f l.fn.k)
