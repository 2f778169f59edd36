use Rattle.std.proofs.Common.{rules}
use Rattle.sha256.specs.Digest.{bytes_of, byte_at}
use Rattle.answers.proofs.Calls.{made}
use Rattle.sha256.proofs.message.to_bytes.Goals as goal

pub returns : goal.returns
unfolding bytes_of
returns c = made _ _ (byte_at c.args.value) 32 c.from_fn.result (λ k y q l e. search rules) c.from_fn.ensures.items
