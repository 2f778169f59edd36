-- The records of a pool hold what its chains do.
use Rattle.std.proofs.Common.{◌≡◌, ℕ, zero, suc, ◌+◌, ◌<◌, ◌≤◌, List, [], ◌∷◌, ◌++◌, map, length, slice_index_or, drop, replicate, Some, None, Option, sym, refl, ap, ap₂, ◌∙◌, subst, ⊎_elim, arith}
use Rattle.std.specs.List.{flat_map}
use Rattle.std.specs.List.Sorted.{IsPermutation}
use Rattle.std.proofs.lemmas.Bool.{cases_eq, cases_lt}
use Rattle.std.proofs.lemmas.List.{map-append, append-nil, drop_all, drop_more}
use Rattle.std.proofs.lemmas.List.Sorted.{IsPermutation-refl, IsPermutation-sym, IsPermutation-cons, IsPermutation-middle, IsPermutation-trans, IsPermutation-map, IsPermutation-append_comm}
use Rattle.record_pool.specs.declared.chain.Chain.{Chain}
use Rattle.record_pool.specs.declared.record.Record.{Record}
use Rattle.record_pool.specs.declared.pool.Pool.{Pool}
use Rattle.record_pool.specs.Chains.{along, hit, times, Shared}
use Rattle.record_pool.specs.Pools.{links, slots, item_at, places, held, items, Blanked, Divided, HoldsJust}
use Rattle.record_pool.proofs.Cells.{length-slots}
use Rattle.record_pool.proofs.Runs.{hit_same, hit_other, times-++}
use Rattle.record_pool.proofs.Writes.{cells}
use Rattle.record_pool.proofs.Holding.{first_of, all_given}

-- ---- places of which each is met once are all places, in some order

-- n places from s on
abbrev span : ℕ → ℕ → List ℕ
span s zero = []
span s (suc n) = s ∷ span (suc s) n

record Found (p : ℕ) (ps : List ℕ) : Type 0 where
  pub front : List ℕ
  pub back : List ℕ
  pub is : ps ≡ front ++ p ∷ back

found : (p : ℕ) (ps : List ℕ) → 0 < times p ps → Found p ps
found p [] m = absurd (omega arith)
found p (x ∷ xs) m =
    ⊎_elim (λ e. record { front = []; back = xs; is = ap (λ (y : ℕ). y ∷ xs) e })
    (λ ne. let h = hit_other p x ne in let f = found p xs (omega arith) in record { front = x ∷ f.front; back = f.back; is = ap (λ (ys : List ℕ). x ∷ ys) f.is }) (cases_eq x p)

gathered : (n s : ℕ) (ps : List ℕ) → ((p : ℕ) → s ≤ p → p < s + n → times p ps ≡ 1) → ((p : ℕ) → 0 < times p ps → (s ≤ p) × (p < s + n)) → IsPermutation (span s n) ps
gathered zero s [] once only = IsPermutation-refl []
gathered zero s (x ∷ xs) once only = absurd (let h = hit_same x in let o = only x (omega arith) in omega arith)
gathered (suc n) s ps once only =
    let o : times s ps ≡ 1 = once s (omega arith) (omega arith) in
    let f : Found s ps = found s ps (omega arith) in
    let rest = f.front ++ f.back in
    let each : (p : ℕ) → times p ps ≡ times p rest + hit p s
    = λ p. let a = times-++ p f.front (s ∷ f.back) in let b = times-++ p f.front f.back in ap (times p) f.is ∙ omega arith in
    let hs = hit_same s in
    let es = each s in
    IsPermutation-trans (span s (suc n)) (s ∷ rest) ps
    (IsPermutation-cons s (span (suc s) n) rest
    (gathered n (suc s) rest
    (λ p lo hi. let e = each p in let t = once p (omega arith) (omega arith) in let h = hit_other p s (λ q. omega (arith, q, lo)) in omega arith)
    (λ p m. let e = each p in let r = only p (omega arith) in
    ⊎_elim (λ q. absurd (let z = subst (λ (x : ℕ). 0 < times x rest) (sym q) m in omega arith)) (λ ne. (omega (arith, r.0, ne_lt s p ne r.0), omega (arith, r.1))) (cases_eq s p))))
    (subst (IsPermutation (s ∷ rest)) (sym f.is) (IsPermutation-sym (f.front ++ s ∷ f.back) (s ∷ rest) (IsPermutation-middle f.front s f.back)))
  where
    ne_lt : (a b : ℕ) → (a ≡ b → ⊥) → a ≤ b → suc a ≤ b
    ne_lt a b ne le = ⊎_elim (λ lt. omega arith) (λ ge. let q : a ≡ b = omega arith in absurd (ne q)) (cases_lt a b)

-- ---- the items at all places

read_all : {Y : Type 0} (ys : List (Option Y)) (k n : ℕ) → k + n ≡ length ys → map (λ p. slice_index_or ys p None) (span k n) ≡ drop k ys
read_all ys k zero e = sym (drop_all k ys (omega arith))
read_all {Y = Y} ys k (suc n) e =
    let s : k + 1 ≡ suc k = omega arith in
    ap (λ (zs : List (Option Y)). slice_index_or ys k None ∷ zs) (read_all ys (suc k) n (omega arith)) ∙ ap (λ (j : ℕ). slice_index_or ys k None ∷ drop j ys) (sym s)
    ∙ sym (drop_more ys k None (omega arith))

all_places : {X : Type 0} (rs : List (Record X)) (cs : List Chain) → Shared (length rs) (links rs) cs → IsPermutation (cells rs) (map (item_at rs) (flat_map (along (links rs)) cs))
all_places rs cs sh =
    let n = length rs in
    let g = gathered n 1 (flat_map (along (links rs)) cs) (λ p lo hi. sh.once p (omega arith) (omega arith)) (λ p m. let o = sh.only p m in (omega (arith, o.0), omega (arith, o.1))) in
    let e : map (item_at rs) (span 1 n) ≡ cells rs = read_all (slots rs) 1 n (omega (arith, length-slots rs)) in
    subst (λ l. IsPermutation l (map (item_at rs) (flat_map (along (links rs)) cs))) e (IsPermutation-map (item_at rs) (span 1 n) (flat_map (along (links rs)) cs) g)

-- ---- those of the chains

abbrev unwrapped : {X : Type 0} → X → Option X → X
unwrapped d o = first_of d (o ∷ [])

un_some : {X : Type 0} (d : X) (xs : List X) → map (unwrapped d) (map (λ x. Some x) xs) ≡ xs
un_some d [] = refl
un_some {X = X} d (x ∷ xs) = ap (λ (ys : List X). x ∷ ys) (un_some d xs)

un_cells : {X : Type 0} (d : X) (rs : List (Record X)) → map (unwrapped d) (cells rs) ≡ map (λ r. r.item) rs
un_cells d [] = refl
un_cells {X = X} d (r ∷ rs) = ap (λ (ys : List X). r.item ∷ ys) (un_cells d rs)

all_blank : {X : Type 0} (f : ℕ → Option X) (b : X) (ps : List ℕ) → ((p : ℕ) → 0 < times p ps → f p ≡ Some b) → map f ps ≡ map (λ x. Some x) (replicate (length ps) b)
all_blank f b [] h = refl
all_blank {X = X} f b (p ∷ ps) h =
    let o = hit_same p in
    ap₂ (λ (y : Option X) (ys : List (Option X)). y ∷ ys) (h p (omega arith)) (all_blank f b ps (λ q m. h q (omega arith)))

joined : {X : Type 0} (pool : Pool X) (cs : List Chain) → map (λ c. map (λ x. Some x) (items pool c)) cs ≡ map (held pool) cs
    → map (item_at pool.records.now) (flat_map (places pool) cs) ≡ map (λ x. Some x) (flat_map (items pool) cs)
joined pool [] e = refl
joined {X = X} pool (c ∷ cs) e =
    map-append (item_at pool.records.now) (places pool c) (flat_map (places pool) cs)
    ∙ ap₂ (λ (xs ys : List (Option X)). xs ++ ys) (sym (ap (λ (l : List (List (Option X))). slice_index_or l 0 []) e)) (joined pool cs (ap (drop 1) e))
    ∙ sym (map-append (λ x. Some x) (items pool c) (flat_map (items pool) cs))

pub holds_just : {X : Type 0} (pool : Pool X) (chains : List Chain) → Divided pool chains → Blanked pool → HoldsJust pool.blank (flat_map (items pool) chains) (map (λ r. r.item) pool.records.now)
holds_just {X = X} pool chains d bl =
    let rs = pool.records.now in
    let b = pool.blank in
    let free = replicate (length (places pool pool.free)) b in
    let held_items = flat_map (items pool) chains in
    let found : map (item_at rs) (flat_map (places pool) (pool.free ∷ chains)) ≡ map (λ x. Some x) (free ++ held_items)
    = map-append (item_at rs) (places pool pool.free) (flat_map (places pool) chains)
    ∙ ap₂ (λ (xs ys : List (Option X)). xs ++ ys) (all_blank (item_at rs) b (places pool pool.free) bl) (joined pool chains (all_given pool chains [] (subst (Divided pool) (sym (append-nil chains)) d)))
    ∙ sym (map-append (λ x. Some x) free held_items) in
    let all : IsPermutation (cells rs) (map (λ x. Some x) (free ++ held_items)) = subst (IsPermutation (cells rs)) found (all_places rs (pool.free ∷ chains) d.shared) in
    let bare : IsPermutation (map (unwrapped b) (cells rs)) (map (unwrapped b) (map (λ x. Some x) (free ++ held_items))) = IsPermutation-map (unwrapped b) (cells rs) (map (λ x. Some x) (free ++ held_items)) all in
    let now : IsPermutation (map (λ r. r.item) rs) (free ++ held_items) = rw (un_cells b rs, un_some b (free ++ held_items)) at bare in
    record {
      free = length (places pool pool.free);
      order = IsPermutation-trans (held_items ++ free) (free ++ held_items) (map (λ r. r.item) rs) (IsPermutation-append_comm held_items free) (IsPermutation-sym (map (λ r. r.item) rs) (free ++ held_items) now);
    }
