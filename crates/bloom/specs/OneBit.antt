-- One bit of a word, after an `or` with a power of 2.
use Rattle.std.proofs.Common.{◌≡◌, ℕ, ◌/◌, ◌%◌, ◌^◌, ◌<◌, ◌||◌, nat_eq, max, sym, ap, ◌∙◌, ⊎_elim, arith}
use lib.Bits.{bit_or}
use Rattle.std.proofs.Math.Bool.{or-false}
use Rattle.std.proofs.lemmas.Bool.{eq-eqb, ne_eqb, or_right, cases_eq}
use Rattle.std.proofs.lemmas.Nat.Bits.{bit_at_or, bit_at-lt, bit_at-pow_same, bit_at-pow_other}
use Rattle.std.specs.Int.{bit_at}

max_one : (x : ℕ) → x < 2 → max x 1 ≡ 1
max_one x h = omega arith

max_zero : (x : ℕ) → max x 0 ≡ x
max_zero x = omega arith

-- bit i of a word after bit j of it was set
pub or_one : (w j i : ℕ) → nat_eq (bit_or w (2 ^ j) / 2 ^ i % 2) 1 ≡ (nat_eq (w / 2 ^ i % 2) 1 || nat_eq j i)
or_one w j i =
    ⊎_elim
    (λ (same : i ≡ j).
    let e : bit_at (bit_or w (2 ^ j)) i ≡ 1 = bit_at_or w (2 ^ j) i ∙ ap (λ z. max (bit_at w i) z) (ap (bit_at (2 ^ j)) same ∙ bit_at-pow_same j) ∙ max_one (bit_at w i) (bit_at-lt w i) in
    eq-eqb _ 1 e ∙ sym (or_right (nat_eq (bit_at w i) 1) (nat_eq j i) (eq-eqb j i (sym same))))
    (λ (other : i ≡ j → ⊥).
    let e : bit_at (bit_or w (2 ^ j)) i ≡ bit_at w i = bit_at_or w (2 ^ j) i ∙ ap (λ z. max (bit_at w i) z) (bit_at-pow_other j i other) ∙ max_zero (bit_at w i) in
    ap (λ z. nat_eq z 1) e ∙ sym (ap (λ z. nat_eq (bit_at w i) 1 || z) (ne_eqb j i (λ h. other (sym h))) ∙ or-false (nat_eq (bit_at w i) 1)))
    (cases_eq i j)
