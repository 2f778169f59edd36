-- The worked examples hold.
use Rattle.std.proofs.Common.{refl}
use Rattle.wire.specs.Content.{encode_content, decode_retry, decode_addr}
use Rattle.sealing.specs.Bench.{column, check_byte, check_bytes}
use Rattle.sealing.specs.Tokens.{nonce_bytes, sealed_with, low_of, says}
use Rattle.gate.specs.Calls.{judge}
use Rattle.bloom.specs.Bits.{position}
use Rattle.worked_examples.specs.Tokens.{TokenExamples}
use Rattle.worked_examples.specs.Memory.{MemoryExamples}
use Rattle.worked_examples.specs.Resets.{ResetExamples}
use Rattle.worked_examples.specs.Examples.{TheWorkedExamplesHold}
use Rattle.worked_examples.proofs.Sizes.{sure47, sure48, sure112, sure128}
use Rattle.worked_examples.proofs.Run.{run, occurs}

tokens : TokenExamples
unfolding column check_byte check_bytes nonce_bytes sealed_with low_of says judge encode_content decode_retry decode_addr
tokens = record {
  content = refl;
  retried = refl;
  length46 = refl;
  length81 = refl;
  at_expiry = refl;
  past_expiry = refl;
  numbered = refl;
}

memory : MemoryExamples
unfolding position
memory = record {
  run = run;
  occurs = occurs;
  sure47 = sure47;
  sure48 = sure48;
  sure112 = sure112;
  sure128 = sure128;
  low = refl;
  high = refl;
  pushed_out = refl;
}

resets : ResetExamples
unfolding column check_byte check_bytes
resets = record {
  token = refl;
  small = refl;
  long = refl;
  reset21 = refl;
  reset20 = refl;
  again = refl;
  full = refl;
}

pub holds : TheWorkedExamplesHold
holds = (tokens, memory, resets)
