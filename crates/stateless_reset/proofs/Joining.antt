-- Byte differences that are joined are zero just where there is none.
use Rattle.std.proofs.Common.{◌≡◌, ℕ, Bool, true, false, ◌&&◌, nat_eq, List, [], ◌∷◌, length, fold, sym, refl, ap, ap₂, ◌∙◌, ⊎_elim, arith}
use lib.Bits.{bit_or, bit_xor, or_add_and, and_le_l, and_le_r, xor_assoc, xor_self, xor_zero_l, xor_zero_r, or_zero_r}
use Rattle.std.specs.Str.{bytes_eq}
use Rattle.std.proofs.lemmas.Bool.{eqb-true, eq-eqb, cases_Bool, false≢true}
use Rattle.stateless_reset.specs.Comparing.{differences, joined}

or_none : (a b : ℕ) → bit_or a b ≡ 0 → (a ≡ 0) × (b ≡ 0)
or_none a b h =
    let s = or_add_and a b in
    let l = and_le_l a b in
    let r = and_le_r a b in
    (omega arith, omega arith)

xor_none : (a b : ℕ) → bit_xor a b ≡ 0 → a ≡ b
xor_none a b h = sym (xor_zero_r a) ∙ ap (bit_xor a) (sym h) ∙ sym (xor_assoc a a b) ∙ ap (λ z. bit_xor z b) (xor_self a) ∙ xor_zero_l b

-- joined to d, the difference of x and y is none just where d is none and they are equal
one_joined : (d x y : ℕ) (rest : Bool) → (nat_eq (bit_or d (bit_xor x y)) 0 && rest) ≡ (nat_eq d 0 && (nat_eq x y && rest))
one_joined d x y rest = ⊎_elim same other (cases_Bool (nat_eq (bit_or d (bit_xor x y)) 0))
  where
    same : nat_eq (bit_or d (bit_xor x y)) 0 ≡ true → (nat_eq (bit_or d (bit_xor x y)) 0 && rest) ≡ (nat_eq d 0 && (nat_eq x y && rest))
    same t =
        let p = or_none d (bit_xor x y) (eqb-true _ 0 t) in
        let a : nat_eq d 0 ≡ true = eq-eqb d 0 p.0 in
        let b : nat_eq x y ≡ true = eq-eqb x y (xor_none x y p.1) in
        ap (λ z. z && rest) t ∙ sym (ap (λ z. z && (nat_eq x y && rest)) a ∙ ap (λ z. z && rest) b)

    other : nat_eq (bit_or d (bit_xor x y)) 0 ≡ false → (nat_eq (bit_or d (bit_xor x y)) 0 && rest) ≡ (nat_eq d 0 && (nat_eq x y && rest))
    other f = ap (λ z. z && rest) f ∙ sym (⊎_elim
        (λ a. ⊎_elim
        (λ b. absurd (false≢true (sym f ∙ eq-eqb (bit_or d (bit_xor x y)) 0 (ap₂ (λ u v. bit_or u (bit_xor v y)) (eqb-true d 0 a) (eqb-true x y b) ∙ ap (bit_or 0) (xor_self y) ∙ or_zero_r 0))))
        (λ b. ap (λ z. z && (nat_eq x y && rest)) a ∙ ap (λ z. z && rest) b) (cases_Bool (nat_eq x y)))
        (λ a. ap (λ z. z && (nat_eq x y && rest)) a) (cases_Bool (nat_eq d 0)))

none_from : (d : ℕ) (xs ys : List ℕ) → length xs ≡ length ys → nat_eq (fold bit_or d (differences xs ys)) 0 ≡ (nat_eq d 0 && bytes_eq xs ys)
none_from d [] [] e = and_true (nat_eq d 0)
  where
    and_true : (b : Bool) → b ≡ (b && true)
    and_true true = refl
    and_true false = refl
none_from d [] (y ∷ ys) e = absurd (omega arith)
none_from d (x ∷ xs) [] e = absurd (omega arith)
none_from d (x ∷ xs) (y ∷ ys) e = none_from (bit_or d (bit_xor x y)) xs ys (omega arith) ∙ one_joined d x y (bytes_eq xs ys)

-- so the test for zero tells whether two strings of one length are equal
pub none_joined : (xs ys : List ℕ) → length xs ≡ length ys → nat_eq (joined (differences xs ys)) 0 ≡ bytes_eq xs ys
none_joined xs ys e = none_from 0 xs ys e
