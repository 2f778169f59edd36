use Rattle.std.proofs.Common.{ℕ, ◌/◌, List, length, ap, ◌∙◌}
use Rattle.sha256.specs.Digest.{absorbed, bytes_of, digest_from}
use Rattle.sha256.proofs.message.finish.Goals as goal

pub returns : goal.returns
unfolding digest_from
returns c = c.to_bytes.ensures ∙ ap bytes_of (c.absorb.ensures ∙ ap (λ (bs : List ℕ). absorbed (length bs / 64) bs c.args.value) c.pad-end.ensures.laid)
