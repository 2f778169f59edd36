use Rattle.std.proofs.Common.{◌≡◌, ℕ, ◌+◌, ◌-◌, ◌++◌, length, sym, ap, ◌∙◌, arith}
use Rattle.answers.specs.Buffers.{pasted}
use Rattle.answers.proofs.Buffers.{put_pasted, pasted-pasted, pasted_front}
use Rattle.aes.specs.Cipher.{cipher}
use Rattle.ccm.specs.Mode.{masked, tag_of, sealed}
use Rattle.ccm.specs.Masks.{length-masked, length_tag}
use Rattle.ccm.proofs.scheme.seal_with.Goals as goal

pub returns : goal.returns
unfolding sealed
returns c =
    let E = cipher c.args.aes.now.round_keys in
    let m = c.args.content.now in
    let out = c.args.out.now in
    let n = length m in
    let at : n ≡ 0 + length (masked E m) = omega (arith, length-masked E m) in
    let wide : n + 16 - n ≡ length (tag_of E m) = omega (arith, length_tag E m) in
    put_pasted (tag_of E m) c.copy_from_slice.new.self c.mask.new.out n (n + 16 - n) (c.copy_from_slice.ensures.after ∙ c.tag.ensures) wide
    ∙ ap (pasted (tag_of E m) n) (c.mask.ensures ∙ sym (pasted_front (masked E m) out))
    ∙ ap (λ (k : ℕ). pasted (tag_of E m) k (pasted (masked E m) 0 out)) at
    ∙ pasted-pasted (masked E m) (tag_of E m) out 0 (omega arith) ∙ pasted_front (masked E m ++ tag_of E m) out
