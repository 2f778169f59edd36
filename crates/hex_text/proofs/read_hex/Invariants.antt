use Rattle.std.proofs.Common.{◌≡◌, ◌+◌, ◌*◌, ◌/◌, ◌≤◌, length, vec_items, vec_len, vec_capacity}
use Rattle.hex_text.specs.Digits.{unhex}
use Rattle.hex_text.proofs.Reading.{before}
use Rattle.hex_text.proofs.read_hex.Given as goal

abbrev pub invariant-loop-left : goal.invariant-loop-left
invariant-loop-left l = record { read : before (vec_items l.bytes) (unhex l.left) ≡ unhex l.text; within : length l.left ≤ length l.text; room : vec_len l.bytes * 2 + length l.left ≤ length l.text; enough : length l.text / 2 ≤ vec_capacity l.bytes }

abbrev pub decreases-loop-left : goal.decreases-loop-left
decreases-loop-left l = length l.left
