use Rattle.std.proofs.Common.{◌≡◌}
use lib.Seq.{paste}
use Rattle.aes.specs.Cipher.{cipher}
use Rattle.ccm.specs.Mode.{masked}
use Rattle.ccm.proofs.mode.mask.Given as goal

abbrev pub invariant-loop-i : goal.invariant-loop-i
invariant-loop-i l = l.out ≡ paste l.initial.out 0 (masked (cipher l.aes.round_keys) l.bytes) l.i
