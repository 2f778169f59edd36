use Rattle.std.proofs.Common.{◌≡◌, ℕ, ◌+◌, ◌*◌, ◌/◌, List, length, drop, sym, ap, ◌∙◌, ap₂, arith}
use Rattle.sha256.specs.Digest.{digest_from}
use Rattle.sha256.proofs.Absorbing.{digest-absorbed, digest_wrapped}
use Rattle.sha256.proofs.message.digest_after.Goals as goal

pub returns : goal.returns
returns c =
    let m = c.args.message.now in
    let v = c.args.value in
    let n = c.args.before + length m in
    let q = length m / 64 in
    let at : q * 64 ≡ 64 * q = omega arith in
    c.finish.ensures ∙ digest_wrapped c.absorb.result c.as_chunks.result.1.now n
    ∙ ap₂ (λ (x rest : List ℕ). digest_from x n rest) c.absorb.ensures (c.as_chunks.ensures.back ∙ ap (λ (k : ℕ). drop k m) at)
    ∙ sym (digest-absorbed q n v m (omega arith))
