use Rattle.std.proofs.Common.{rules, ◌*◌, ◌%◌, slice_index}
use Rattle.aes.specs.Field.{sub}
use Rattle.answers.proofs.Calls.{made}
use Rattle.aes.proofs.cipher.substituted.Goals as goal

pub returns : goal.returns
returns c = made _ _ (λ i. sub (slice_index c.args.state (5 * i % 16))) 16 c.from_fn.result (λ k y q l e. search rules) c.from_fn.ensures.items
