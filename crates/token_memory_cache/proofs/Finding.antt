-- Where a name stands among entries.
use Rattle.std.proofs.Common.{◌≡◌, ℕ, suc, ◌+◌, ◌<◌, Bool, true, false, cond, not, ◌&&◌, nat_lt, List, [], ◌∷◌, ◌++◌, map, length, take, drop, slice_index_or, Some, None, sym, refl, ap, ap₂, ◌∙◌, subst, ⊎_elim, arith}
use lib.ListN.{length-map}
use Rattle.std.specs.List.{position, position_from, prefix_len}
use Rattle.std.specs.Str.{bytes_eq}
use Rattle.std.proofs.lemmas.Bool.{cases_Bool, cond-true, cond-false, and_parts, not-true, or_left, or_right, or_from, or_parts}
use Rattle.std.proofs.lemmas.Iterator.Adapters.{position_from-zero}
use Rattle.record_pool.specs.Chains.{without as cut}
use Rattle.token_store.specs.Store.{Bytes}
use Rattle.token_memory_cache.specs.Cache.{Entry, named, tokens_of, without, apart, some, sound}
use Rattle.token_memory_cache.proofs.Sameness.{same_true}

abbrev pub called : Bytes → Entry → Bool
called n e = bytes_eq n e.name

-- a test of what f makes of each
prefix_map : {X Y : Type 0} (test : Y → Bool) (f : X → Y) (xs : List X) → prefix_len (λ x. test (f x)) xs ≡ prefix_len test (map f xs)
prefix_map test f [] = refl
prefix_map test f (x ∷ xs) = ap (λ k. cond (test (f x)) (1 + k) 0) (prefix_map test f xs)

-- entry k has the name n
pub record At (n : Bytes) (es : List Entry) (k : ℕ) : Type 0 where
  pub there : k < length es
  pub named : named n es ≡ true
  pub cut : cut k es ≡ without n es
  pub tokens : (d : Entry) → (slice_index_or es k d).tokens ≡ tokens_of n es

-- an entry that no other has the name of
without_none : (n : Bytes) (es : List Entry) → named n es ≡ false → without n es ≡ es
without_none n [] h = refl
without_none n (e ∷ es) h =
    let p = or_parts _ _ h in
    cond-false _ _ _ p.0 ∙ ap (λ xs. e ∷ xs) (without_none n es p.1)

first : (n : Bytes) (e : Entry) (es : List Entry) → sound (e ∷ es) ≡ true → called n e ≡ true → At n (e ∷ es) 0
first n e es s h =
    let q = not-true _ (and_parts _ _ (and_parts _ _ s).0).0 in
    let alone : named n es ≡ false = rw (same_true n e.name h) q in
    record {
      there = omega arith;
      named = or_left _ _ h;
      cut = sym (cond-true _ _ _ h ∙ without_none n es alone);
      tokens = λ d. sym (cond-true _ _ _ h);
    }

later : (n : Bytes) (e : Entry) (es : List Entry) (k : ℕ) → called n e ≡ false → At n es k → At n (e ∷ es) (suc k)
later n e es k h a =
    let next : suc k + 1 ≡ suc (k + 1) = omega arith in
    record {
      there = omega (arith, a.there);
      named = or_right _ _ a.named;
      cut = ap (λ j. (e ∷ take k es) ++ drop j (e ∷ es)) next ∙ ap (λ xs. e ∷ xs) a.cut ∙ sym (cond-false _ _ _ h);
      tokens = λ d. a.tokens d ∙ sym (cond-false _ _ _ h);
    }

at_from : (n : Bytes) (es : List Entry) (i m : ℕ) → sound es ≡ true → position_from (called n) i es ≡ Some m → (k : ℕ) × (m ≡ i + k) × At n es k
at_from n [] i m s h = cc
at_from n (e ∷ es) i m s h =
    ⊎_elim
    (λ t.
    let is : Some i ≡ Some m = sym (cond-true _ _ _ t) ∙ h in
    let same : i ≡ m = cc in
    (0, omega arith, first n e es s t))
    (λ f.
    let q : sound es ≡ true = (and_parts (not (named e.name es) && (apart e.tokens && some e.tokens)) (sound es) s).1 in
    let g : position_from (called n) (i + 1) es ≡ Some m = sym (cond-false (called n e) (Some i) (position_from (called n) (i + 1) es) f) ∙ h in
    let r = at_from n es (i + 1) m q g in
    (suc r.0, omega (arith, r.1), later n e es r.0 f r.2))
    (cases_Bool (called n e))

none_from : (n : Bytes) (es : List Entry) (i : ℕ) → position_from (called n) i es ≡ None → named n es ≡ false
none_from n [] i h = refl
none_from n (e ∷ es) i h =
    ⊎_elim (λ t. let is : Some i ≡ None = sym (cond-true _ _ _ t) ∙ h in cc) (λ f. or_from _ _ f (none_from n es (i + 1) (sym (cond-false _ _ _ f) ∙ h))) (cases_Bool (called n e))

-- where `position` finds it
pub found : (n : Bytes) (es : List Entry) (k : ℕ) → sound es ≡ true → position (called n) es ≡ Some k → At n es k
found n es k s h =
    let r = at_from n es 0 k s (sym (position_from-zero (called n) es) ∙ h) in
    let same : k ≡ r.0 = omega (arith, r.1) in
    subst (At n es) (sym same) r.2

pub not_found : (n : Bytes) (es : List Entry) → position (called n) es ≡ None → named n es ≡ false
not_found n es h = none_from n es 0 (sym (position_from-zero (called n) es) ∙ h)

-- the same among what f makes of each
pub position_map : {X Y : Type 0} (test : Y → Bool) (f : X → Y) (xs : List X) → position (λ x. test (f x)) xs ≡ position test (map f xs)
position_map test f xs = ap₂ (λ k n. cond (nat_lt k n) (Some k) None) (prefix_map (λ y. not (test y)) f xs) (sym (length-map xs f))
