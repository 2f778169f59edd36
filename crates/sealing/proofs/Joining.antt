-- Differences of bytes that are joined.
use Rattle.std.proofs.Common.{◌≡◌, ℕ, ◌+◌, List, get_or, sym, ap, ◌∙◌, arith, below_more}
use lib.Bits.{bit_or, bit_xor, or_add_and, and_le_l, and_le_r, xor_assoc, xor_self, xor_zero_l, xor_zero_r, or_zero_l}
use Rattle.sealing.specs.Sealing.{SameTo}

or_none : (a b : ℕ) → bit_or a b ≡ 0 → (a ≡ 0) × (b ≡ 0)
or_none a b h =
    let s = or_add_and a b in
    let l = and_le_l a b in
    let r = and_le_r a b in
    (omega arith, omega arith)

xor_none : (a b : ℕ) → bit_xor a b ≡ 0 → a ≡ b
xor_none a b h = sym (xor_zero_r a) ∙ ap (bit_xor a) (sym h) ∙ sym (xor_assoc a a b) ∙ ap (λ z. bit_xor z b) (xor_self a) ∙ xor_zero_l b

module _ (xs ys : List ℕ) (i joined : ℕ) (inv : (joined ≡ 0 → SameTo i xs ys) × (SameTo i xs ys → joined ≡ 0)) where
  pub joined_more : (bit_or joined (bit_xor (get_or xs i 0) (get_or ys i 0)) ≡ 0 → SameTo (i + 1) xs ys)
      × (SameTo (i + 1) xs ys → bit_or joined (bit_xor (get_or xs i 0) (get_or ys i 0)) ≡ 0)
  joined_more = (
    λ h. let p = or_none joined (bit_xor (get_or xs i 0) (get_or ys i 0)) h in
        below_more (λ j. get_or xs j 0 ≡ get_or ys j 0) i (inv.0 p.0) (xor_none (get_or xs i 0) (get_or ys i 0) p.1),
    λ s. let d : joined ≡ 0 = inv.1 (λ j l. s j (omega arith)) in
        let x : bit_xor (get_or xs i 0) (get_or ys i 0) ≡ 0 = ap (λ z. bit_xor z (get_or ys i 0)) (s i (omega arith)) ∙ xor_self (get_or ys i 0) in
        ap (λ z. bit_or z (bit_xor (get_or xs i 0) (get_or ys i 0))) d ∙ or_zero_l (bit_xor (get_or xs i 0) (get_or ys i 0)) ∙ x,
  )
