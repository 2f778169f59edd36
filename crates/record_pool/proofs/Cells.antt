-- A record's place among the links and among the slots.
use Rattle.std.proofs.Common.{◌≡◌, ℕ, zero, suc, ◌+◌, ◌<◌, List, ◌∷◌, map, length, slice_index, slice_index_or, set, Some, None, Option, sym, refl, ap, ◌∙◌, ⊎_elim, arith}
use lib.ListN.{length-map}
use Rattle.std.proofs.lemmas.List.{get_or-map, map-set, set-get_or, get_or_past}
use Rattle.record_pool.specs.declared.record.Record.{Record}
use Rattle.record_pool.specs.Pools.{Outside, links, slots, some_at}

pub length-links : {X : Type 0} (rs : List (Record X)) → length (links rs) ≡ length rs + 1
length-links rs = omega (arith, length-map rs (λ r. r.next))

pub length-slots : {X : Type 0} (rs : List (Record X)) → length (slots rs) ≡ length rs + 1
length-slots {X = X} rs = let e : length (map (λ (r : Record X). Some r.item) rs) ≡ length rs = length-map rs (λ (r : Record X). Some r.item) in omega arith

-- ---- a place that no record has

past : (n p : ℕ) → Outside n p → 0 < p → n < p
past n p h pos = ⊎_elim (λ z. absurd (omega arith)) (λ b. b) h

pub links_none : {X : Type 0} (rs : List (Record X)) (p : ℕ) → Outside (length rs) p → 0 ≡ slice_index (links rs) p
links_none rs zero h = refl
links_none rs (suc p) h = let l = length-links rs in let b : length rs < suc p = past (length rs) (suc p) h (omega arith) in sym (get_or_past (links rs) (suc p) 0 (omega arith))

-- ---- the place p of the record at index i

pub links-at : {X : Type 0} (rs : List (Record X)) (i p : ℕ) (r : Record X) → i + 1 ≡ p → i < length rs → (slice_index_or rs i r).next ≡ slice_index (links rs) p
links-at {X = X} rs i p r e b =
    let s : suc i ≡ p = omega arith in
    sym (get_or-map (λ (r : Record X). r.next) rs i r 0 b) ∙ ap (λ (k : ℕ). slice_index (links rs) k) s

pub slots_at : {X : Type 0} (rs : List (Record X)) (i p : ℕ) (r : Record X) → i + 1 ≡ p → i < length rs → Some (slice_index_or rs i r).item ≡ slice_index_or (slots rs) p None
slots_at {X = X} rs i p r e b =
    let s : suc i ≡ p = omega arith in
    sym (get_or-map (λ (r : Record X). Some r.item) rs i r None b) ∙ ap (λ (k : ℕ). slice_index_or (slots rs) k None) s

pub links-set : {X : Type 0} (rs : List (Record X)) (i p : ℕ) (r : Record X) → i + 1 ≡ p → links (set rs i r) ≡ set (links rs) p r.next
links-set {X = X} rs i p r e =
    let s : suc i ≡ p = omega arith in
    ap (λ (l : List ℕ). 0 ∷ l) (map-set (λ (r : Record X). r.next) rs i r) ∙ ap (λ (k : ℕ). set (links rs) k r.next) s

slots_set : {X : Type 0} (rs : List (Record X)) (i p : ℕ) (r : Record X) → i + 1 ≡ p → slots (set rs i r) ≡ set (slots rs) p (Some r.item)
slots_set {X = X} rs i p r e =
    let s : suc i ≡ p = omega arith in
    ap (λ (l : List (Option X)). None ∷ l) (map-set (λ (r : Record X). Some r.item) rs i r) ∙ ap (λ (k : ℕ). set (slots rs) k (Some r.item)) s

some_at_lem : {X : Type 0} (ys : List (Option X)) (p : ℕ) (x : X) → 0 < p → set ys p (Some x) ≡ some_at ys p x
some_at_lem ys zero x h = absurd (omega arith)
some_at_lem ys (suc p) x h = refl

pub slots_put : {X : Type 0} (rs : List (Record X)) (i p : ℕ) (r : Record X) → i + 1 ≡ p → slots (set rs i r) ≡ some_at (slots rs) p r.item
slots_put rs i p r e = slots_set rs i p r e ∙ some_at_lem (slots rs) p r.item (omega arith)

-- a write of what was there
pub links_same : {X : Type 0} (rs : List (Record X)) (i p : ℕ) (r : Record X) (x : X) → i + 1 ≡ p → i < length rs
    → links (set rs i (record { next = (slice_index_or rs i r).next; item = x })) ≡ links rs
links_same rs i p r x e b =
    links-set rs i p _ e ∙ ap (λ (v : ℕ). set (links rs) p v) (links-at rs i p r e b) ∙ set-get_or (links rs) p 0

pub slots_same : {X : Type 0} (rs : List (Record X)) (i p : ℕ) (r : Record X) (n : ℕ) → i + 1 ≡ p → i < length rs
    → slots (set rs i (record { next = n; item = (slice_index_or rs i r).item })) ≡ slots rs
slots_same {X = X} rs i p r n e b =
    slots_set rs i p _ e ∙ ap (λ (v : Option X). set (slots rs) p v) (slots_at rs i p r e b) ∙ set-get_or (slots rs) p None
