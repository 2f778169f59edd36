-- What follows of a pool that is divided into chains.
use Rattle.std.proofs.Common.{◌≡◌, ℕ, zero, suc, ◌+◌, ◌<◌, ◌≤◌, ◌⊎◌, List, [], ◌∷◌, ◌++◌, map, length, slice_index, slice_index_or, Some, sym, refl, ap, ◌∙◌, subst, inl, inr, ⊎_elim, arith, length-append}
use Rattle.std.specs.List.{flat_map, sum_by}
use lib.ListN.{length-map}
use Rattle.std.proofs.lemmas.Bool.{cases_eq}
use Rattle.std.proofs.lemmas.List.Sums.{sum_by-cons}
use Rattle.record_pool.specs.declared.chain.Chain.{Chain}
use Rattle.record_pool.specs.declared.pool.Pool.{Pool}
use Rattle.record_pool.specs.Chains.{walk, along, follow, hit, times, Shared}
use Rattle.record_pool.specs.Pools.{links, places, item_at, held, nth, Divided, InOne}
use Rattle.record_pool.proofs.Runs.{hit_same, hit_other, times-++, follow_more, length-walk, get_d_walk}
use Rattle.record_pool.proofs.Sharing.{joined_map, reshared, bring, send}
use Rattle.record_pool.proofs.Steps.{met_nth}
use Rattle.record_pool.proofs.Writes.{no_such}

-- ---- a place that stands once

record Once (xs : List ℕ) (p : ℕ) : Type 0 where
  pub position : ℕ
  pub stands : nth xs position ≡ Some p
  pub alone : (k : ℕ) → nth xs k ≡ Some p → k ≡ position

not_here : (xs : List ℕ) (p k : ℕ) → times p xs ≡ 0 → nth xs k ≡ Some p → ⊥
not_here xs p k z e = let m : 1 ≤ times p xs = met_nth xs k p e in omega arith

once_first : (x : ℕ) (xs : List ℕ) (p : ℕ) → x ≡ p → times p (x ∷ xs) ≡ 1 → Once (x ∷ xs) p
once_first x xs p e t = record { position = 0; stands = ap Some e; alone = alone }
  where
    z : times p xs ≡ 0
    z = let h : hit p x ≡ 1 = subst (λ (y : ℕ). hit p y ≡ 1) (sym e) (hit_same p) in omega arith

    alone : (k : ℕ) → nth (x ∷ xs) k ≡ Some p → k ≡ 0
    alone zero h = refl
    alone (suc k) h = absurd (not_here xs p k z h)

once_later : (x : ℕ) (xs : List ℕ) (p : ℕ) → (x ≡ p → ⊥) → Once xs p → Once (x ∷ xs) p
once_later x xs p ne o = record { position = suc o.position; stands = o.stands; alone = alone }
  where
    alone : (k : ℕ) → nth (x ∷ xs) k ≡ Some p → k ≡ suc o.position
    alone zero h = absurd (ne (cc))
    alone (suc k) h = ap suc (o.alone k h)

once_in : (xs : List ℕ) (p : ℕ) → times p xs ≡ 1 → Once xs p
once_in [] p t = absurd (omega arith)
once_in (x ∷ xs) p t = ⊎_elim (λ e. once_first x xs p e t) (λ ne. once_later x xs p ne (once_in xs p (less ne))) (cases_eq x p)
  where
    less : (x ≡ p → ⊥) → times p xs ≡ 1
    less ne = let h : hit p x ≡ 0 = hit_other p x ne in omega arith

abbrev all : List (List ℕ) → List ℕ
all pss = flat_map (λ (xs : List ℕ). xs) pss

met_in : (pss : List (List ℕ)) (i k p : ℕ) → nth (slice_index_or pss i []) k ≡ Some p → 1 ≤ times p (all pss)
met_in [] i k p e = absurd (no_such p e)
met_in (ps ∷ pss) zero k p e = let m : 1 ≤ times p ps = met_nth ps k p e in let t : times p (ps ++ all pss) ≡ times p ps + times p (all pss) = times-++ p ps (all pss) in omega arith
met_in (ps ∷ pss) (suc i) k p e = let m : 1 ≤ times p (all pss) = met_in pss i k p e in let t : times p (ps ++ all pss) ≡ times p ps + times p (all pss) = times-++ p ps (all pss) in omega arith

in_first : (ps : List ℕ) (pss : List (List ℕ)) (p : ℕ) → times p (all pss) ≡ 0 → Once ps p → InOne (ps ∷ pss) p
in_first ps pss p z o = record { chain = 0; position = o.position; stands = o.stands; alone = alone }
  where
    alone : (i k : ℕ) → nth (slice_index_or (ps ∷ pss) i []) k ≡ Some p → (i ≡ 0) × (k ≡ o.position)
    alone zero k h = (refl, o.alone k h)
    alone (suc i) k h = absurd (let m : 1 ≤ times p (all pss) = met_in pss i k p h in omega arith)

in_later : (ps : List ℕ) (pss : List (List ℕ)) (p : ℕ) → times p ps ≡ 0 → InOne pss p → InOne (ps ∷ pss) p
in_later ps pss p z o = record { chain = suc o.chain; position = o.position; stands = o.stands; alone = alone }
  where
    alone : (i k : ℕ) → nth (slice_index_or (ps ∷ pss) i []) k ≡ Some p → (i ≡ suc o.chain) × (k ≡ o.position)
    alone zero k h = absurd (not_here ps p k z h)
    alone (suc i) k h = let a : (i ≡ o.chain) × (k ≡ o.position) = o.alone i k h in (ap suc a.0, a.1)

none_or_some : (m : ℕ) → (m ≡ 0) ⊎ (1 ≤ m)
none_or_some zero = inl refl
none_or_some (suc m) = inr (omega arith)

in_one : (pss : List (List ℕ)) (p : ℕ) → times p (all pss) ≡ 1 → InOne pss p
in_one [] p t = absurd (omega arith)
in_one (ps ∷ pss) p t = ⊎_elim (λ z. in_later ps pss p z (in_one pss p (rest z))) (λ m. in_first ps pss p (none m) (once_in ps p (one m))) (none_or_some (times p ps))
  where
    sum : times p (ps ++ all pss) ≡ times p ps + times p (all pss)
    sum = times-++ p ps (all pss)

    rest : times p ps ≡ 0 → times p (all pss) ≡ 1
    rest z = let s : times p (ps ++ all pss) ≡ times p ps + times p (all pss) = sum in omega arith

    none : 1 ≤ times p ps → times p (all pss) ≡ 0
    none m = let s : times p (ps ++ all pss) ≡ times p ps + times p (all pss) = sum in omega arith

    one : 1 ≤ times p ps → times p ps ≡ 1
    one m = let s : times p (ps ++ all pss) ≡ times p ps + times p (all pss) = sum in omega arith

pub record_in_one : {X : Type 0} (pool : Pool X) (chains : List Chain) (p : ℕ) → Divided pool chains → 0 < p → p ≤ length pool.records.now
    → InOne (map (places pool) (pool.free ∷ chains)) p
record_in_one pool chains p d lo hi =
    in_one (map (places pool) (pool.free ∷ chains)) p (ap (times p) (sym (joined_map (links pool.records.now) (pool.free ∷ chains))) ∙ d.shared.once p lo hi)

-- ---- where a chain ends

pub chain_end : (n : ℕ) (nx : List ℕ) (chains front back : List Chain) (c : Chain) → Shared n nx chains → chains ≡ front ++ c ∷ back → follow c.count nx c.first ≡ 0
chain_end n nx chains front back c sh e =
    (bring n nx front c back (subst (λ (cs : List Chain). Shared n nx cs) e sh)).ended.0

pub last_link : (n : ℕ) (nx : List ℕ) (chains front back : List Chain) (c : Chain) (k : ℕ) → Shared n nx chains → chains ≡ front ++ c ∷ back → k + 1 ≡ c.count
    → slice_index nx (slice_index (along nx c) k) ≡ 0
last_link n nx chains front back c k sh e ec =
    let s : suc k ≡ c.count = omega arith in
    ap (λ (p : ℕ). slice_index nx p) (get_d_walk c.count k nx c.first (omega arith)) ∙ sym (follow_more k nx c.first) ∙ ap (λ (m : ℕ). follow m nx c.first) s
    ∙ chain_end n nx chains front back c sh e

-- ---- the order of the chains

pub to_front : {X : Type 0} (pool : Pool X) (front back : List Chain) (c : Chain) → Divided pool (front ++ c ∷ back) → Divided pool (c ∷ (front ++ back))
to_front pool front back c d = record {
  size = d.size;
  shared = bring (length pool.records.now) (links pool.records.now) (c ∷ []) pool.free (front ++ back)
      (bring (length pool.records.now) (links pool.records.now) (pool.free ∷ front) c back d.shared);
}

pub from_front : {X : Type 0} (pool : Pool X) (front back : List Chain) (c : Chain) → Divided pool (c ∷ (front ++ back)) → Divided pool (front ++ c ∷ back)
from_front pool front back c d = record {
  size = d.size;
  shared = send (length pool.records.now) (links pool.records.now) (pool.free ∷ front) c back
      (bring (length pool.records.now) (links pool.records.now) (pool.free ∷ []) c (front ++ back) d.shared);
}

-- ---- how long the chains are

pub length-held : {X : Type 0} (pool : Pool X) (c : Chain) → length (held pool c) ≡ c.count
length-held {X = X} pool c = length-map (places pool c) (item_at pool.records.now) ∙ length-walk c.count (links pool.records.now) c.first

all_along : (nx : List ℕ) (cs : List Chain) → length (flat_map (along nx) cs) ≡ sum_by (λ c. c.count) cs
all_along nx [] = refl
all_along nx (c ∷ cs) =
    let a : length (along nx c ++ flat_map (along nx) cs) ≡ length (along nx c) + length (flat_map (along nx) cs) = length-append (along nx c) (flat_map (along nx) cs) in
    let l : length (along nx c) ≡ c.count = length-walk c.count nx c.first in
    let t : sum_by (λ (d : Chain). d.count) (c ∷ cs) ≡ c.count + sum_by (λ (d : Chain). d.count) cs = sum_by-cons (λ (d : Chain). d.count) c cs in
    let rest : length (flat_map (along nx) cs) ≡ sum_by (λ (d : Chain). d.count) cs = all_along nx cs in
    omega arith

pub all_counted : {X : Type 0} (pool : Pool X) (chains : List Chain) → Divided pool chains → sum_by (λ c. c.count) (pool.free ∷ chains) ≡ length pool.records.now
all_counted pool chains d = sym (all_along (links pool.records.now) (pool.free ∷ chains)) ∙ d.shared.full

pub without_empty : {X : Type 0} (pool : Pool X) (c : Chain) (chains : List Chain) → c.count ≡ 0 → Divided pool (c ∷ chains) → Divided pool chains
without_empty pool c chains z d =
    let nx = links pool.records.now in
    let none : along nx c ≡ [] = ap (λ k. walk k nx c.first) z in
    record {
      size = d.size;
      shared = reshared (length pool.records.now) nx nx (pool.free ∷ c ∷ chains) (pool.free ∷ chains) d.shared
          (λ p. ap (λ ps. times p (along nx pool.free ++ (ps ++ flat_map (along nx) chains))) (sym none))
          (ap (λ ps. length (along nx pool.free ++ (ps ++ flat_map (along nx) chains))) (sym none)) (d.shared.ended.0, d.shared.ended.1.1);
    }
