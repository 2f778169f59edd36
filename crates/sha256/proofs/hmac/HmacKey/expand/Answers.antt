use Rattle.std.proofs.Common.{◌≡◌, ℕ, ◌+◌, ◌*◌, ◌/◌, List, [], ◌∷◌, ◌++◌, length, take, drop, sym, ap, ◌∙◌, ap₂, arith}
use Rattle.std.proofs.lemmas.List.{length-append}
use Rattle.sha256.specs.Digest.{digest_from}
use Rattle.sha256.specs.Hmac.{signed}
use Rattle.sha256.proofs.Absorbing.{digest_front, digest_wrapped}
use Rattle.sha256.proofs.hmac.HmacKey.expand.Goals as goal

pub returns : goal.returns
unfolding signed
returns c =
    let info = c.args.info.now in
    let inner = c.args.self.now.inner in
    let one : List ℕ = 1 ∷ [] in
    let tail = c.last_info-tail.result in
    let rest = c.as_chunks.result.1.now in
    let q = length info / 64 in
    let at : q * 64 ≡ 64 * q = omega arith in
    let from : rest ≡ drop (64 * q) info = c.as_chunks.ensures.back ∙ ap (λ (k : ℕ). drop k info) at in
    let laid : take (length rest + 1) tail ≡ drop (64 * q) info ++ one = c.last_info-tail.ensures ∙ ap (λ (r : List ℕ). r ++ one) from in
    let n = 65 + length info in
    let total : n ≡ 64 + length (info ++ one) = omega (arith, length-append info one) in
    let first : c.finish-inner.result ≡ digest_from inner (64 + length (info ++ one)) (info ++ one) =
    c.finish-inner.ensures ∙ digest_wrapped c.absorb.result (take (length rest + 1) tail) n
    ∙ ap₂ (λ (v r : List ℕ). digest_from v n r) c.absorb.ensures laid
    ∙ sym (digest_front q n inner info one (omega arith)) ∙ ap (λ (k : ℕ). digest_from inner k (info ++ one)) total in
    let end : 64 + length c.finish-inner.result ≡ 96 = omega arith in
    c.digest_after.ensures ∙ ap₂ (digest_from c.args.self.now.outer) end first
