use Rattle.std.proofs.Common.{◌*◌}
use Rattle.answers.proofs.Filling.{Filled}
use Rattle.aes.specs.Cipher.{cipher}
use Rattle.ccm.specs.Mode.{stream_at}
use Rattle.ccm.proofs.mode.key_stream.Given as goal

abbrev pub invariant-loop-n : goal.invariant-loop-n
invariant-loop-n l = Filled (stream_at (cipher l.aes.round_keys)) 64 l.stream (16 * l.n)
