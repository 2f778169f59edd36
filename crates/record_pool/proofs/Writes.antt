-- What is read at a place once items are written.
use Rattle.std.proofs.Common.{◌≡◌, ℕ, zero, suc, ◌+◌, ◌<◌, ◌≤◌, ◌≢◌, List, [], ◌∷◌, ◌++◌, map, length, slice_index_or, take, replicate, set, Some, None, Option, sym, refl, ap, ◌∙◌, subst, ⊎_elim, arith, length-set, get_or-set_other, get_or-set_same}
use lib.ListN.{length-map}
use Rattle.std.proofs.lemmas.Bool.{cases_eq, cases_lt}
use Rattle.std.proofs.lemmas.List.{set_past, map-set, take_more_set, take_all, replicate_more}
use Rattle.record_pool.specs.declared.record.Record.{Record}
use Rattle.record_pool.specs.Chains.{times}
use Rattle.record_pool.specs.Pools.{slots, item_at, some_at, all_at}
use Rattle.record_pool.proofs.Cells.{length-slots}
use Rattle.record_pool.proofs.Runs.{hit_other, missed}
use Rattle.record_pool.proofs.Sharing.{none_or}

-- ---- one item

length_some : {X : Type 0} (ys : List (Option X)) (p : ℕ) (x : X) → length (some_at ys p x) ≡ length ys
length_some ys zero x = refl
length_some ys (suc p) x = length-set ys (suc p) (Some x)

pub some-length : {X : Type 0} (rs rs' : List (Record X)) (p : ℕ) (x : X) → slots rs' ≡ some_at (slots rs) p x → length rs' ≡ length rs
some-length rs rs' p x e =
    let a : length (slots rs') ≡ length (slots rs) = ap length e ∙ length_some (slots rs) p x in
    let b : length (slots rs') ≡ length rs' + 1 = length-slots rs' in
    let d : length (slots rs) ≡ length rs + 1 = length-slots rs in
    omega arith

pub some_other : {X : Type 0} (ys : List (Option X)) (i : ℕ) (x : X) (p : ℕ) → p ≢ i → slice_index_or (some_at ys i x) p None ≡ slice_index_or ys p None
some_other ys zero x p ne = refl
some_other ys (suc i) x p ne = get_or-set_other ys (suc i) p (Some x) None ne

pub some_here : {X : Type 0} (ys : List (Option X)) (i : ℕ) (x : X) → 0 < i → i < length ys → slice_index_or (some_at ys i x) i None ≡ Some x
some_here ys zero x pos lt = absurd (omega arith)
some_here ys (suc i) x pos lt = get_or-set_same ys (suc i) (Some x) None lt

-- ---- a place that has a record, and one that has none

there : {X : Type 0} (rs : List (Record X)) (q : ℕ) → q < length rs → (x : X) × (slice_index_or (map (λ (r : Record X). Some r.item) rs) q None ≡ Some x)
there [] q h = absurd (omega arith)
there (r ∷ rs) zero h = (r.item, refl)
there (r ∷ rs) (suc q) h = there rs q (omega arith)

pub item_there : {X : Type 0} (rs : List (Record X)) (p : ℕ) → 0 < p → p ≤ length rs → (x : X) × (item_at rs p ≡ Some x)
item_there rs zero pos h = absurd (omega arith)
item_there rs (suc q) pos h = there rs q (omega arith)

pub no_such : {Y : Type 0} (y : Y) → None ≡ Some y → ⊥
no_such y e = let z : ◌≡◌ {A = ℕ} 0 1 = cc in omega arith

pub some_nowhere : {X : Type 0} (rs : List (Record X)) (p : ℕ) (x : X) → None ≡ item_at rs p → some_at (slots rs) p x ≡ slots rs
some_nowhere rs zero x e = refl
some_nowhere rs (suc q) x e =
    ⊎_elim (λ lt. let t = item_there rs (suc q) (omega arith) (omega arith) in absurd (no_such t.0 (e ∙ t.1)))
    (λ ge. set_past (slots rs) (suc q) (Some x) (omega (arith, length-slots rs))) (cases_lt q (length rs))

-- ---- one item at many places

length_all : {X : Type 0} (ys : List (Option X)) (ps : List ℕ) (x : X) → length (all_at ys ps x) ≡ length ys
length_all ys [] x = refl
length_all ys (p ∷ ps) x = length_all (some_at ys p x) ps x ∙ length_some ys p x

pub all-length : {X : Type 0} (rs rs' : List (Record X)) (ps : List ℕ) (x : X) → slots rs' ≡ all_at (slots rs) ps x → length rs' ≡ length rs
all-length rs rs' ps x e =
    let a : length (slots rs') ≡ length (slots rs) = ap length e ∙ length_all (slots rs) ps x in
    let b : length (slots rs') ≡ length rs' + 1 = length-slots rs' in
    let d : length (slots rs) ≡ length rs + 1 = length-slots rs in
    omega arith

pub all_other : {X : Type 0} (ys : List (Option X)) (ps : List ℕ) (x : X) (p : ℕ) → times p ps ≡ 0 → slice_index_or (all_at ys ps x) p None ≡ slice_index_or ys p None
all_other ys [] x p z = refl
all_other ys (q ∷ ps) x p z =
    let ne : q ≢ p = missed p q (omega arith) in
    all_other (some_at ys q x) ps x p (omega arith) ∙ some_other ys q x p (λ e. ne (sym e))

pub all_here : {X : Type 0} (ys : List (Option X)) (ps : List ℕ) (x : X) (p : ℕ) → 0 < p → p < length ys → 0 < times p ps → slice_index_or (all_at ys ps x) p None ≡ Some x
all_here ys [] x p pos lt m = absurd (omega arith)
all_here {X = X} ys (q ∷ ps) x p pos lt m = ⊎_elim first (λ h. all_here (some_at ys q x) ps x p pos (omega (arith, length_some ys q x)) h) (none_or (times p ps))
  where
    at : q ≡ p → slice_index_or (some_at ys q x) p None ≡ Some x
    at e = subst (λ (r : ℕ). slice_index_or (some_at ys r x) p None ≡ Some x) (sym e) (some_here ys p x pos lt)

    first : times p ps ≡ 0 → slice_index_or (all_at ys (q ∷ ps) x) p None ≡ Some x
    first z = all_other (some_at ys q x) ps x p z ∙ ⊎_elim at (λ ne. let h = hit_other p q ne in absurd (omega arith)) (cases_eq q p)

-- ---- one item everywhere

abbrev pub cells : {X : Type 0} → List (Record X) → List (Option X)
cells rs = map (λ r. Some r.item) rs

pub filled_more : {X : Type 0} (rs : List (Record X)) (i : ℕ) (r : Record X) → i < length rs → take i (cells rs) ≡ replicate i (Some r.item) → take (i + 1) (cells (set rs i r)) ≡ replicate (i + 1) (Some r.item)
filled_more {X = X} rs i r lt h =
    ap (take (i + 1)) (map-set (λ (s : Record X). Some s.item) rs i r)
    ∙ take_more_set (cells rs) i (Some r.item) (omega (arith, length-map rs (λ (s : Record X). Some s.item)))
    ∙ ap (λ ys. ys ++ Some r.item ∷ []) h ∙ replicate_more i (Some r.item)

pub filled : {X : Type 0} (rs : List (Record X)) (i n : ℕ) (x : X) → i ≡ length rs → i ≡ n → take i (cells rs) ≡ replicate i (Some x) → slots rs ≡ None ∷ replicate n (Some x)
filled {X = X} rs i n x e ei h =
    ap (λ ys. None ∷ ys) (sym (take_all i (cells rs) (omega (arith, length-map rs (λ (s : Record X). Some s.item)))) ∙ h) ∙ ap (λ k. None ∷ replicate k (Some x)) ei
