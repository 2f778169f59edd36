-- What the chains of a division hold, as lists of items.
use Rattle.std.proofs.Common.{◌≡◌, ℕ, List, [], ◌∷◌, ◌++◌, map, length, slice_index_or, drop, Some, None, Option, sym, refl, ap, ap₂, ◌∙◌}
use Rattle.std.proofs.lemmas.List.{append-nil}
use Rattle.record_pool.specs.declared.chain.Chain.{Chain}
use Rattle.record_pool.specs.declared.pool.Pool.{Pool}
use Rattle.record_pool.specs.Pools.{held, items, Blanked, Divided, Becomes}
use Rattle.record_pool.proofs.Divisions.{from_front}
use Rattle.record_pool.proofs.Giving.{gives_all}
use Rattle.record_pool.proofs.Steps.{leading}

-- a chain named last
pub to_end : {X : Type 0} (pool : Pool X) (c : Chain) (cs : List Chain) → Divided pool (c ∷ cs) → Divided pool (cs ++ c ∷ [])
to_end pool c cs d = from_front pool cs [] c (rw (append-nil cs) d)

-- the items of a chain, and of each of some chains
pub given : {X : Type 0} (pool : Pool X) (c : Chain) (cs : List Chain) → Divided pool (c ∷ cs) → map (λ x. Some x) (items pool c) ≡ held pool c
given pool c cs d = gives_all pool.records.now c (pool.free ∷ cs) (leading pool c cs d)

pub all_given : {X : Type 0} (pool : Pool X) (cs others : List Chain) → Divided pool (cs ++ others) → map (λ c. map (λ x. Some x) (items pool c)) cs ≡ map (held pool) cs
all_given pool [] others d = refl
all_given pool (c ∷ cs) others d = ap₂ (λ x xs. x ∷ xs) (given pool c (cs ++ others) d) (all_given pool cs (c ∷ others) (from_front pool cs others c d))

abbrev pub first_of : {X : Type 0} → X → List (Option X) → X
first_of x [] = x
first_of x (None ∷ ys) = x
first_of x (Some y ∷ ys) = y

-- lists of which each item is there
pub some_same : {X : Type 0} (xs ys : List X) → map (λ x. Some x) xs ≡ map (λ x. Some x) ys → xs ≡ ys
some_same [] [] e = refl
some_same [] (y ∷ ys) e = cc
some_same (x ∷ xs) [] e = cc
some_same (x ∷ xs) (y ∷ ys) e = ap₂ (λ z zs. z ∷ zs) (ap (first_of x) e) (some_same xs ys (ap (drop 1) e))

all_same : {X : Type 0} (xs ys : Chain → List X) (cs : List Chain) → map (λ c. map (λ x. Some x) (xs c)) cs ≡ map (λ c. map (λ x. Some x) (ys c)) cs → map xs cs ≡ map ys cs
all_same xs ys [] e = refl
all_same xs ys (c ∷ cs) e = ap₂ (λ z zs. z ∷ zs) (some_same (xs c) (ys c) (ap (λ l. slice_index_or l 0 []) e)) (all_same xs ys cs (ap (drop 1) e))

-- a chain has become c, and holds the items xs; the others hold what they held
pub record Holds {X : Type 0} (before after : Pool X) (c : Chain) (others : List Chain) (xs : List X) : Type 0 where
  pub divided : Divided after (c ∷ others)
  pub size : length after.records.now ≡ length before.records.now
  pub gives : items after c ≡ xs
  pub rest : map (items after) others ≡ map (items before) others
  pub blank : after.blank ≡ before.blank
  pub blanked : Blanked before → Blanked after

pub holds : {X : Type 0} (before after : Pool X) (b c : Chain) (others : List Chain) (ps : List ℕ) (ys : List (Option X)) (fs : List ℕ) (xs : List X) → Divided before (b ∷ others)
    → Becomes before after c others ps ys fs → ys ≡ map (λ x. Some x) xs → Holds before after c others xs
holds before after b c others ps ys fs xs d h e = record {
  divided = h.divided;
  size = h.size;
  gives = some_same (items after c) xs (given after c others h.divided ∙ h.holds ∙ e);
  rest = all_same (items after) (items before) others
      (all_given after others (c ∷ []) (to_end after c others h.divided)
      ∙ h.kept.hold ∙ sym (all_given before others (b ∷ []) (to_end before b others d)));
  blank = h.blank;
  blanked = h.blanked;
}
