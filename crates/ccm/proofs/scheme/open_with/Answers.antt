use Rattle.std.proofs.Common.{◌≡◌, ℕ, ◌-◌, length, take, drop, sym, ap, ◌∙◌, arith}
use Rattle.std.proofs.lemmas.List.{take_rest, take_at}
use Rattle.answers.specs.Buffers.{fronted}
use Rattle.aes.specs.Cipher.{cipher}
use Rattle.ccm.specs.Mode.{masked, tag_of, unmasked}
use Rattle.ccm.specs.Openings.{tag_fits, fits_tag, length-unmasked}
use Rattle.ccm.proofs.scheme.open_with.Goals as goal

pub returns : goal.returns
returns c =
    let E = cipher c.args.aes.now.round_keys in
    let b = c.args.sealed.now in
    let working = c.args.working.now in
    let n : ℕ = length b - 16 in
    let m = unmasked E b in
    let zero : n - 0 ≡ n = omega arith in
    let after : c.mask.new.out ≡ fronted m working = c.mask.ensures ∙ ap (λ (k : ℕ). fronted (masked E (take k b)) working) zero in
    let there : take (n - 0) c.mask.new.out ≡ m =
    ap (λ (k : ℕ). take k c.mask.new.out) zero ∙ ap (take n) after ∙ take_at m (drop (length m) working) n (length-unmasked E b c.requires.long) in
    let tag : c.tag.result ≡ tag_of E m = c.tag.ensures ∙ ap (tag_of E) there in
    record {
      fits = (
        λ t. tag_fits E b c.requires.long (sym (take_rest b n) ∙ c.same_tag.ensures.0 t ∙ tag),
        λ e. c.same_tag.ensures.1 (take_rest b n ∙ fits_tag E b c.requires.long e ∙ sym tag),
      );
      after = after;
    }
