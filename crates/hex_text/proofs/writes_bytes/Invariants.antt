use Rattle.std.proofs.Common.{◌≡◌, length, is_some}
use Rattle.hex_text.specs.Digits.{unhex}
use Rattle.hex_text.proofs.writes_bytes.Given as goal

abbrev pub invariant-loop-left : goal.invariant-loop-left
invariant-loop-left l = is_some (unhex l.left) ≡ is_some (unhex l.text)

abbrev pub decreases-loop-left : goal.decreases-loop-left
decreases-loop-left l = length l.left
