-- What a pool holds, and what a call leaves of it. A place that has no record links to 0 and has no item.
use Rattle.std.specs.Prelude.{◌≡◌, ℕ, zero, suc, ◌^◌, ◌<◌, ◌⊎◌, if◌then◌else◌, ◌==◌, List, [], ◌∷◌, ◌++◌, map, length, take, drop, replicate, Some, None, Option, slice_index, slice_index_or, slice_set}
use Rattle.std.specs.List.Sorted.{IsPermutation}
use Rattle.record_pool.specs.declared.chain.Chain.{Chain}
use Rattle.record_pool.specs.declared.record.Record.{Record}
use Rattle.record_pool.specs.declared.pool.Pool.{Pool}
use Rattle.record_pool.specs.Chains.{along, times, Shared, without}

-- the element k of a list, counted from 0
abbrev pub nth : {X : Type 0} → List X → ℕ → Option X
nth [] k = None
nth (x ∷ xs) zero = Some x
nth (x ∷ xs) (suc k) = nth xs k

-- 0 is no place
abbrev pub some_place : ℕ → Option ℕ
some_place zero = None
some_place (suc p) = Some (suc p)

-- none of n records has the place p
abbrev pub Outside : ℕ → ℕ → Type 0
Outside n p = (p ≡ 0) ⊎ (n < p)

-- the link at each place
abbrev pub links : {X : Type 0} → List (Record X) → List ℕ
links rs = 0 ∷ map (λ r. r.next) rs

-- the item at each place
abbrev pub slots : {X : Type 0} → List (Record X) → List (Option X)
slots rs = None ∷ map (λ r. Some r.item) rs

abbrev pub item_at : {X : Type 0} → List (Record X) → ℕ → Option X
item_at rs p = slice_index_or (slots rs) p None

-- the items once the one at a place is written
abbrev pub some_at : {X : Type 0} → List (Option X) → ℕ → X → List (Option X)
some_at ys zero x = ys
some_at ys (suc p) x = slice_set ys (suc p) (Some x)

-- the items once one is written at each of these places
abbrev pub all_at : {X : Type 0} → List (Option X) → List ℕ → X → List (Option X)
all_at ys [] x = ys
all_at ys (p ∷ ps) x = all_at (some_at ys p x) ps x

-- the places of a chain, in order
abbrev pub places : {X : Type 0} → Pool X → Chain → List ℕ
places pool c = along (links pool.records.now) c

-- what a chain holds, in order: in a division each place has an item
abbrev pub held : {X : Type 0} → Pool X → Chain → List (Option X)
held pool c = map (item_at pool.records.now) (places pool c)

-- the items of so many records from a place on, in order: those of a chain, which end early where a place has no record
abbrev pub put_before : {X : Type 0} → List X → Option X → List X
put_before xs None = []
put_before xs (Some x) = x ∷ xs

abbrev pub items_from : {X : Type 0} → ℕ → List (Record X) → ℕ → List X
items_from zero rs p = []
items_from (suc k) rs p = put_before (items_from k rs (slice_index (links rs) p)) (item_at rs p)

abbrev pub items : {X : Type 0} → Pool X → Chain → List X
items pool c = items_from c.count pool.records.now c.first

-- each free record holds the blank
abbrev pub Blanked : {X : Type 0} → Pool X → Type 0
Blanked pool = (p : ℕ) → 0 < times p (places pool pool.free) → item_at pool.records.now p ≡ Some pool.blank

-- the free chain and these chains share out the records
pub record Divided {X : Type 0} (pool : Pool X) (chains : List Chain) : Type 0 where
  pub size : length pool.records.now < 2 ^ 32
  pub shared : Shared (length pool.records.now) (links pool.records.now) (pool.free ∷ chains)

-- chains that have the same places and hold the same
pub record Kept {X : Type 0} (before after : Pool X) (chains : List Chain) : Type 0 where
  pub stand : map (places after) chains ≡ map (places before) chains
  pub hold : map (held after) chains ≡ map (held before) chains

-- a chain has become c, with these places and items, the free chain has these places, the others are as they were, no
-- record came or went, the blank is what it was, and each free record holds it where each did
pub record Becomes {X : Type 0} (before after : Pool X) (c : Chain) (others : List Chain) (ps : List ℕ) (xs : List (Option X)) (fs : List ℕ) : Type 0 where
  pub divided : Divided after (c ∷ others)
  pub size : length after.records.now ≡ length before.records.now
  pub stands : places after c ≡ ps
  pub holds : held after c ≡ xs
  pub free : places after after.free ≡ fs
  pub kept : Kept before after others
  pub blank : after.blank ≡ before.blank
  pub blanked : Blanked before → Blanked after

-- the records hold these items now, and the blank is what it was
pub record Leaves {X : Type 0} (before after : Pool X) (ys : List (Option X)) : Type 0 where
  pub slots : slots after.records.now ≡ ys
  pub blank : after.blank ≡ before.blank

-- the items once one is put into the first free record, where one is free
abbrev pub one_put : {X : Type 0} → Pool X → X → List (Option X)
one_put pool x = if pool.free.count == 0 then slots pool.records.now else some_at (slots pool.records.now) pool.free.first x

-- the items once these places hold the blank
abbrev pub blank_at : {X : Type 0} → Pool X → List ℕ → List (Option X)
blank_at pool ps = all_at (slots pool.records.now) ps pool.blank

-- nothing is altered
pub record Same {X : Type 0} (before after : Pool X) : Type 0 where
  pub records : after.records.now ≡ before.records.now
  pub free : after.free ≡ before.free
  pub blank : after.blank ≡ before.blank

-- a list with its element k put to the end
abbrev pub to_back : {X : Type 0} → ℕ → List X → List X
to_back k xs = without k xs ++ take 1 (drop k xs)

-- among lists of places, p stands in just one, and there once
pub record InOne (pss : List (List ℕ)) (p : ℕ) : Type 0 where
  pub chain : ℕ
  pub position : ℕ
  pub stands : nth (slice_index_or pss chain []) position ≡ Some p
  pub alone : (i k : ℕ) → nth (slice_index_or pss i []) k ≡ Some p → (i ≡ chain) × (k ≡ position)

-- ys are the items xs and so many blanks, in some order
pub record HoldsJust {X : Type 0} (blank : X) (xs ys : List X) : Type 0 where
  pub free : ℕ
  pub order : IsPermutation (xs ++ replicate free blank) ys
