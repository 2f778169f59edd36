-- Membership in lists of fingerprints.
use Rattle.std.proofs.Common.{zero-add, ◌≡◌, ℕ, zero, suc, ◌<◌, Bool, true, false, ◌||◌, nat_eq, List, [], ◌∷◌, ◌++◌, length, slice_index, slice_index_or, Some, sym, refl, ap, ◌∙◌, ⊎_elim, arith}
use Rattle.std.proofs.lemmas.Bool.{false≢true, eqb-true, eqb-false, eq-eqb, ne_eqb, or_cases, or_parts, or_from, or_left, or_right, and_parts, and_from, not-true, not_from_false, cases_Bool, lt-ltb}
use Rattle.std.proofs.lemmas.List.{get_or_read, get_or_default}
use Rattle.std.proofs.lemmas.List.FromFn.{length-range_with_len, get_or-range_with_len}
use Rattle.std.specs.Bool.{MatchBool}
use Rattle.std.specs.List.{AllWithin, HoldsAt, range_with_len, list_any}
use Rattle.filter.specs.Lists.{member, distinct, place}
use Rattle.filter.specs.SetLaws.{member_push}

-- as std says it
pub member_any : (f : ℕ) (xs : List ℕ) → list_any (λ x. nat_eq x f) xs ≡ member f xs
member_any f [] = refl
member_any f (x ∷ xs) = ap (λ b. nat_eq x f || b) (member_any f xs)

member-at : (xs : List ℕ) (i : ℕ) → i < length xs → member (slice_index xs i) xs ≡ true
member-at [] i h = absurd (omega arith)
member-at (x ∷ xs) zero h = or_left _ _ (eq-eqb x x refl)
member-at (x ∷ xs) (suc i) h = or_right _ _ (member-at xs i (omega arith))

pub found_at : (xs : List ℕ) (i f y : ℕ) → i < length xs → y ≡ slice_index_or xs i y → y ≡ f → true ≡ member f xs
found_at xs i f y h g e = let z : slice_index xs i ≡ f = sym (get_or_read xs i y h g 0) ∙ e in sym (rw z at (member-at xs i h))

member_where : (xs : List ℕ) (f : ℕ) → member f xs ≡ true → (k : ℕ) × (k < length xs) × (slice_index xs k ≡ f)
member_where [] f h = absurd (false≢true h)
member_where (x ∷ xs) f h =
    ⊎_elim (λ e. (zero, omega arith, eqb-true x f e)) (λ e. let w = member_where xs f e in (suc w.0, omega (arith, w.1), w.2)) (or_cases _ _ h)

pub absent : (xs : List ℕ) (f : ℕ) → ((k : ℕ) → k < length xs → slice_index xs k ≡ f → ⊥) → member f xs ≡ false
absent xs f h = ⊎_elim (λ e. let w = member_where xs f e in absurd (h w.0 w.1 w.2)) (λ e. e) (cases_Bool (member f xs))

pub distinct_push : (xs : List ℕ) (f : ℕ) → distinct xs ≡ true → member f xs ≡ false → distinct (xs ++ f ∷ []) ≡ true
distinct_push [] f d h = refl
distinct_push (x ∷ xs) f d h =
    let p = and_parts _ _ d in
    let q = or_parts _ _ h in
    let n : nat_eq f x ≡ false = ne_eqb f x (λ e. eqb-false x f q.0 (sym e)) in
    and_from _ _ (not_from_false _ (member_push xs f x ∙ or_from _ _ n (not-true _ p.0))) (distinct_push xs f p.1 q.1)

-- what is told at a place
pub place_in : (xs : List ℕ) (i : ℕ) → i < length xs → place xs i ≡ Some (slice_index xs i)
place_in xs i h = let l = lt-ltb i (length xs) h in rw l

-- a search over the places
pub found_among : (xs : List ℕ) (n f : ℕ) (r : Bool) → n ≡ length xs
    → MatchBool r ((k : ℕ) × (k < length (range_with_len 0 n)) × HoldsAt (λ i. place xs i ≡ Some f) (range_with_len 0 n) k)
    (AllWithin (λ i. place xs i ≡ Some f → ⊥) (range_with_len 0 n) 0 (length (range_with_len 0 n)))
    → r ≡ member f xs
found_among xs n f true e (k, l, h) =
    let m : k < n = omega (arith, length-range_with_len 0 n) in
    let z : k < length xs = omega arith in
    let a : slice_index (range_with_len 0 n) k ≡ k = get_or-range_with_len 0 n k 0 m ∙ zero-add k in
    let p = place_in xs k z in
    let q : place xs k ≡ Some f = rw a at (h 0) in
    found_at xs k f (slice_index xs k) z (get_or_default xs k 0 (slice_index xs k) z) cc
found_among xs n f false e h =
    sym (absent xs f (λ k l d.
    let m : k < n = omega arith in
    let a : slice_index (range_with_len 0 n) k ≡ k = get_or-range_with_len 0 n k 0 m ∙ zero-add k in
    let p = place_in xs k l in
    let q : place xs k ≡ Some f = cc in
    h k 0 (omega arith) (omega (arith, length-range_with_len 0 n)) (rw a q)))
