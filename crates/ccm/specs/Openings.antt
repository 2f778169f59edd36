-- Bytes open exactly where they are sealed ones.
use Rattle.std.specs.Prelude.{◌≡◌, ℕ, ◌+◌, ◌-◌, ◌≤◌, List, ◌++◌, length, take, drop}
use Rattle.std.proofs.Common.{sym, ◌∙◌, arith}
use Rattle.std.proofs.Math.Path.{ap, ap₂}
use Rattle.std.proofs.lemmas.List.{length-append, length-take-le, take-append-drop, take_at, drop_at}
use Rattle.ccm.specs.Mode.{Cipher, masked, tag_of, sealed, unmasked}
use Rattle.ccm.specs.Masks.{length-masked, masked_twice, length_tag}

module _ (E : Cipher) where
  pub length-sealed : (m : List ℕ) → length (sealed E m) ≡ length m + 16
  unfolding sealed
  length-sealed m = length-append (masked E m) (tag_of E m) ∙ ap₂ ◌+◌ (length-masked E m) (length_tag E m)

  -- what is sealed is found again
  pub unmasked-sealed : (m : List ℕ) → unmasked E (sealed E m) ≡ m
  unfolding sealed
  unmasked-sealed m =
      let n : length (masked E m) ≡ length (sealed E m) - 16 = omega (arith, length-masked E m, length-sealed m) in
      ap (masked E) (take_at (masked E m) (tag_of E m) (length (sealed E m) - 16) n) ∙ masked_twice E m

  module _ (b : List ℕ) (long : 16 ≤ length b) where
    front : masked E (unmasked E b) ≡ take (length b - 16) b
    front = masked_twice E (take (length b - 16) b)

    pub length-unmasked : length (unmasked E b) ≡ length b - 16
    length-unmasked = length-masked E (take (length b - 16) b) ∙ length-take-le (length b - 16) b (omega arith)

    -- bytes that end with the tag of their content are its sealed bytes, and no others
    pub tag_fits : drop (length b - 16) b ≡ tag_of E (unmasked E b) → sealed E (unmasked E b) ≡ b
    unfolding sealed
    tag_fits e = ap₂ ◌++◌ front (sym e) ∙ take-append-drop (length b - 16) b

    pub fits_tag : sealed E (unmasked E b) ≡ b → drop (length b - 16) b ≡ tag_of E (unmasked E b)
    unfolding sealed
    fits_tag e =
        ap (drop (length b - 16)) (sym e)
        ∙ drop_at (masked E (unmasked E b)) (tag_of E (unmasked E b)) (length b - 16) (length-masked E (unmasked E b) ∙ length-unmasked)
