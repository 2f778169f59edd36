-- A call makes as many stores as it sets bits, or alters words.
use Rattle.std.proofs.Common.{◌≡◌, ℕ, zero, suc, ◌+◌, ◌*◌, ◌/◌, ◌%◌, ◌<◌, ◌≤◌, Bool, true, false, not, ◌&&◌, ◌||◌, if◌then◌else◌, nat_eq, List, [], ◌∷◌, ◌++◌, length, replicate, slice_index, slice_set, Vec, vec_items, vec_capacity, sym, refl, ap, ◌∙◌, subst, ⊎_elim, mod-lt, arith}
use Rattle.std.specs.declared.alloc.Global.{Global}
use Rattle.std.specs.List.{AllByRecursion}
use Rattle.answers.specs.Successions.Succession.{new, then as on}
use Rattle.std.proofs.lemmas.Bool.{eq-eqb, ne_eqb, or_left, or_right, cond-true, cond-false, cases_Bool, cases_eq, both_ways}
use Rattle.std.proofs.Math.Bool.{or-false}
use Rattle.bloom.specs.Bits.{bit, set_bit, step, position, with_set}
use Rattle.bloom.specs.BitLaws.{bit-set, length_with, bits_with, zero_word}
use Rattle.bloom.specs.Stores.{Store, setting, clearing, Stored}
use Rattle.bloom.specs.Changes.{count_below, bits_set, words_altered}
use Rattle.bloom.proofs.Storing.{set_twice}

not_both : (b : Bool) → (not b && b) ≡ false
not_both true = refl
not_both false = refl

and_off : (a b : Bool) → b ≡ false → (not a && b) ≡ false
and_off true b h = refl
and_off false b h = h

and_on : (a b : Bool) → a ≡ false → b ≡ true → (not a && b) ≡ true
and_on a b h k = rw (h, k) refl

counted_alike : (t t' : ℕ → Bool) (n : ℕ) → ((p : ℕ) → p < n → t' p ≡ t p) → count_below t' n ≡ count_below t n
unfolding count_below
counted_alike t t' zero h = refl
counted_alike t t' (suc n) h = rw (h n (omega arith), counted_alike t t' n (λ p l. h p (omega arith))) refl

counted_none : (t : ℕ → Bool) (n : ℕ) → ((p : ℕ) → t p ≡ false) → count_below t n ≡ 0
unfolding count_below
counted_none t zero h = refl
counted_none t (suc n) h = rw (h n, counted_none t n h) refl

-- where one more number passes
one_more : (t t' : ℕ → Bool) (q n : ℕ) → q < n → t q ≡ false → t' q ≡ true → ((p : ℕ) → (p ≡ q → ⊥) → t' p ≡ t p) → count_below t' n ≡ suc (count_below t n)
unfolding count_below
one_more t t' q zero l a b h = absurd (omega arith)
one_more t t' q (suc n) l a b h =
    ⊎_elim
    (λ (e : n ≡ q).
    let same : count_below t' n ≡ count_below t n = counted_alike t t' n (λ p k. h p (λ z. omega arith)) in
    rw (ap t' e ∙ b, ap t e ∙ a, same) (omega arith))
    (λ (d : n ≡ q → ⊥). rw (h n d, one_more t t' q n (omega (arith, d)) a b h) (omega arith))
    (cases_eq n q)

pub none_set_by_none : (ws : List ℕ) (m : ℕ) → bits_set m ws ws ≡ 0
none_set_by_none ws m = counted_none _ m (λ p. not_both (bit ws p))

inside : (m f : ℕ) → 0 < m → (n : ℕ) → position m f n < m
unfolding position
inside m f some zero = mod-lt f some
inside m f some (suc n) = mod-lt (position m f n + step m f) some

module _ (ws : List ℕ) (m f : ℕ) (some : 0 < m) (fits : m ≤ 64 * length ws) where
  -- what is clear then was clear at first
  clear_before : (n p : ℕ) → bit (with_set ws m f n) p ≡ false → bit ws p ≡ false
  clear_before n p h = ⊎_elim (λ y. absurd (both_ways _ h (bits_with ws m f some fits n p ∙ or_left _ _ y))) (λ z. z) (cases_Bool (bit ws p))

  pub as_many_as_bits : (n : ℕ) → length (setting ws m f n) ≡ bits_set m ws (with_set ws m f n)
  unfolding setting with_set
  as_many_as_bits zero = sym (none_set_by_none ws m)
  as_many_as_bits (suc n) =
      let vs : List ℕ = with_set ws m f n in
      let q : ℕ = position m f n in
      let place : q / 64 < length vs = omega (arith, inside m f some n, length_with ws m f some fits n) in
      ⊎_elim
      (λ (y : bit vs q ≡ true). ap length (cond-true _ _ _ y) ∙ as_many_as_bits n ∙ ap (bits_set m ws) (sym (set_twice vs q y)))
      (λ (z : bit vs q ≡ false).
      ap length (cond-false _ _ _ z) ∙ ap suc (as_many_as_bits n)
      ∙ sym (one_more (λ p. not (bit ws p) && bit vs p) (λ p. not (bit ws p) && bit (set_bit vs q) p) q m (inside m f some n)
      (and_off (bit ws q) (bit vs q) z)
      (and_on (bit ws q) (bit (set_bit vs q) q) (clear_before n q z) (bit-set vs q q place ∙ or_right (bit vs q) (nat_eq q q) (eq-eqb q q refl)))
      (λ p d. ap (λ x. not (bit ws p) && x) (bit-set vs q p place ∙ ap (λ x. bit vs p || x) (ne_eqb q p (λ e. d (sym e))) ∙ or-false (bit vs p)))))
      (cases_Bool (bit vs q))

-- and to no word but the first c
pub set_within : (ws : List ℕ) (c f : ℕ) → 0 < c → (n : ℕ) → AllByRecursion (λ s. s.at < c) (setting ws (c * 64) f n)
unfolding setting
set_within ws c f some zero = tt
set_within ws c f some (suc n) =
    let P : List Store → Type 0 = AllByRecursion (λ s. s.at < c) in
    let q : ℕ = position (c * 64) f n in
    let l : q < c * 64 = inside (c * 64) f (omega arith) n in
    ⊎_elim
    (λ y. subst P (sym (cond-true _ _ _ y)) (set_within ws c f some n))
    (λ z. subst P (sym (cond-false _ _ _ z)) ((let d : q / 64 < c = omega arith in d), set_within ws c f some n))
    (cases_Bool (bit (with_set ws (c * 64) f n) q))

pub cleared_within : (ws : List ℕ) (c n : ℕ) → n ≤ c → AllByRecursion (λ s. s.at < c) (clearing ws n)
unfolding clearing
cleared_within ws c zero l = tt
cleared_within ws c (suc n) l =
    let P : List Store → Type 0 = AllByRecursion (λ s. s.at < c) in
    ⊎_elim
    (λ y. subst P (sym (cond-true _ _ _ y)) (cleared_within ws c n (omega arith)))
    (λ z. subst P (sym (cond-false _ _ _ z)) (l, cleared_within ws c n (omega arith)))
    (cases_Bool (nat_eq (slice_index ws n) 0))

not_zero : (ws : List ℕ) (n : ℕ) → length (clearing ws n) ≡ count_below (λ i. not (nat_eq (slice_index ws i) 0)) n
unfolding clearing count_below
not_zero ws zero = refl
not_zero ws (suc n) =
    ⊎_elim
    (λ (y : nat_eq (slice_index ws n) 0 ≡ true). ap length (cond-true _ _ _ y) ∙ not_zero ws n ∙ rw y (omega arith))
    (λ (z : nat_eq (slice_index ws n) 0 ≡ false). ap length (cond-false _ _ _ z) ∙ ap suc (not_zero ws n) ∙ rw z (omega arith))
    (cases_Bool (nat_eq (slice_index ws n) 0))

pub as_many_as_words : (ws rest : List ℕ) (n : ℕ) → length (clearing ws n) ≡ words_altered n ws (replicate n 0 ++ rest)
as_many_as_words ws rest n =
    not_zero ws n ∙ sym (counted_alike _ _ n (λ p l. ap (λ x. not (nat_eq (slice_index ws p) x)) (zero_word n p rest l)))

-- stores to a `Vec`
pub vec_keeps : (v v' : Vec ℕ Global) (xs : List Store)
    → Stored (λ v at word v'. (vec_items v' ≡ slice_set (vec_items v) at word) × (vec_capacity v' ≡ vec_capacity v)) v xs v' → vec_capacity v' ≡ vec_capacity v
vec_keeps v v' [] new = refl
vec_keeps v v'' (x ∷ xs) (on {s' = v'} w s) = s.1 ∙ vec_keeps v v' xs w
