-- Two connection ids whose lengths and arrays are equal have the same bytes.
use Rattle.std.proofs.Common.{◌≡◌, Decides, ℕ, ◌-◌, true, ◌&&◌, List, ◌++◌, length, take, replicate, nat_eq, refl, sym, ap₂, ◌∙◌}
use Rattle.std.proofs.lemmas.Bool.{and_parts}
use Rattle.std.proofs.lemmas.Bool.Decides.{Decides-eqb}
use Rattle.std.proofs.lemmas.List.{take_at}
use Rattle.std.proofs.lemmas.Slice.Eq.{slice_eq-Decides}
use Rattle.std.specs.Cmp.Lexicographic.{pointwise}

-- the array that an id is laid out in
abbrev laid : List ℕ → List ℕ
laid bs = bs ++ replicate (20 - length bs) 0

-- equal lengths and equal arrays are of one id
same : (a b : List ℕ) → (nat_eq (length a) (length b) && pointwise nat_eq (laid a) (laid b)) ≡ true → a ≡ b
same a b h =
    let p = and_parts (nat_eq (length a) (length b)) (pointwise nat_eq (laid a) (laid b)) h in
    let n : length a ≡ length b = (Decides-eqb (length a) (length b)).0 p.0 in
    let e : laid a ≡ laid b = (slice_eq-Decides Decides-eqb (laid a) (laid b) _ refl).0 p.1 in
    sym (take_at a _ (length a) refl) ∙ ap₂ take n e ∙ take_at b _ (length b) refl

tested : (a : List ℕ) → (nat_eq (length a) (length a) && pointwise nat_eq (laid a) (laid a)) ≡ true
tested a = ap₂ ◌&&◌ ((Decides-eqb (length a) (length a)).1 refl) ((slice_eq-Decides Decides-eqb (laid a) (laid a) _ refl).1 refl)

pub ids_tell : (a b : List ℕ) → Decides (nat_eq (length a) (length b) && pointwise nat_eq (laid a) (laid b)) (a ≡ b)
ids_tell a b = (same a b, λ e. rw e (tested b))
