-- What an iterator over a chain gives.
use Rattle.std.proofs.Common.{◌≡◌, ℕ, zero, suc, ◌+◌, ◌-◌, ◌<◌, ◌≤◌, List, ◌∷◌, map, length, slice_index, slice_index_or, Some, None, Option, sym, refl, ap, ap₂, arith}
use Rattle.record_pool.specs.declared.chain.Chain.{Chain}
use Rattle.record_pool.specs.declared.record.Record.{Record}
use Rattle.record_pool.specs.Chains.{walk, along, hit, times, Shared}
use Rattle.record_pool.specs.Pools.{links, item_at, put_before, items_from}
use Rattle.record_pool.proofs.Cells.{links-at, slots_at}
use Rattle.record_pool.proofs.Runs.{hit_same}
use Rattle.record_pool.proofs.Sharing.{in_range}
use Rattle.record_pool.proofs.Writes.{item_there}

pub gives : {X : Type 0} (rs : List (Record X)) (k s i : ℕ) (r : Record X) → 0 < k → i + 1 ≡ s → i < length rs
    → items_from k rs s ≡ (slice_index_or rs i r).item ∷ items_from (k - 1) rs (slice_index_or rs i r).next
gives rs zero s i r z e b = absurd (omega arith)
gives rs (suc k) s i r z e b =
    let o : suc k - 1 ≡ k = omega arith in
    rw o (ap₂ (λ n x. put_before (items_from k rs n) x) (sym (links-at rs i s r e b)) (sym (slots_at rs i s r e b)))

-- along places that each have a record, every item is given
each : {X : Type 0} (rs : List (Record X)) (k s : ℕ) → ((p : ℕ) → 1 ≤ times p (walk k (links rs) s) → (0 < p) × (p ≤ length rs))
    → map (λ x. Some x) (items_from k rs s) ≡ map (item_at rs) (walk k (links rs) s)
each rs zero s h = refl
each rs (suc k) s h =
    let r = h s (let e : hit s s ≡ 1 = hit_same s in omega arith) in
    let t = item_there rs s r.0 r.1 in
    rw t.1 (ap (λ xs. Some t.0 ∷ xs) (each rs k (slice_index (links rs) s) (λ p m. h p (omega arith))))

pub gives_all : {X : Type 0} (rs : List (Record X)) (c : Chain) (cs : List Chain) → Shared (length rs) (links rs) (c ∷ cs)
    → map (λ x. Some x) (items_from c.count rs c.first) ≡ map (item_at rs) (along (links rs) c)
gives_all rs c cs sh = each rs c.count c.first (λ p m. in_range (length rs) (links rs) c cs p sh m)

pub length-items : {X : Type 0} (k : ℕ) (rs : List (Record X)) (s : ℕ) → length (items_from k rs s) ≤ k
length-items zero rs s = omega arith
length-items (suc k) rs s =
    let h = length-items k rs (slice_index (links rs) s) in
    longer (items_from k rs (slice_index (links rs) s)) (item_at rs s) k h
  where
    longer : {X : Type 0} (xs : List X) (o : Option X) (k : ℕ) → length xs ≤ k → length (put_before xs o) ≤ suc k
    longer xs None k h = omega arith
    longer xs (Some x) k h = omega arith
