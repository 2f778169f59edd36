use Rattle.std.proofs.Common.{◌≡◌, length, ◌+◌, drop, fold}
use lib.Bits.{bit_or}
use Rattle.stateless_reset.specs.Comparing.{differences, joined}
use Rattle.stateless_reset.proofs.constant_time.constant_time_ne.Given as goal

abbrev pub invariant-loop-byte : goal.invariant-loop-byte
invariant-loop-byte l =
    (goal.iterator-loop-byte).can_next l.unread × (goal.iterator-loop-byte).is_finite l.unread × (length l.unread.rest.now + l.i ≡ length l.others)
    × (fold bit_or l.all (differences l.unread.rest.now (drop l.i l.others)) ≡ joined (differences l.fn.unread.rest.now l.others))
