use Rattle.std.proofs.Common.{◌/◌, ◌%◌, rules, slice_index}
use Rattle.aes.specs.Words.{bytes_of}
use Rattle.answers.proofs.Calls.{made}
use Rattle.aes.proofs.cipher.joined.Goals as goal

pub returns : goal.returns
returns c = made _ _ (λ i. slice_index (bytes_of (slice_index c.args.columns (i / 4))) (i % 4)) 16 c.from_fn.result (λ k y q l e. search rules) c.from_fn.ensures.items
