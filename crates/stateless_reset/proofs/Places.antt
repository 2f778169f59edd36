-- Tokens in the records of a pool.
use Rattle.std.proofs.Common.{◌≡◌, ℕ, ◌+◌, ◌<◌, cond, nat_eq, nat_le, true, false, List, [], ◌∷◌, ◌++◌, map, length, drop, Some, None, Ok, Err, Option, Result, sym, refl, ap, ap₂, ◌∙◌, subst, ⊎_elim, arith}
use lib.ListN.{length-map}
use Rattle.std.proofs.lemmas.Bool.{cond-true, cond-false, le-leb, lt-leb, eq-eqb, ne_eqb, cases_lt}
use Rattle.std.proofs.lemmas.List.{map-append, append-nil}
use Rattle.std.proofs.lemmas.List.Sums.{sum_by-cons}
use Rattle.answers.specs.declared.Refusal.{Refusal}
use Rattle.answers.specs.declared.Refusal.TheVariants.{ResetTableFull}
use Rattle.record_pool.specs.declared.chain.Chain.{Chain}
use Rattle.record_pool.specs.declared.pool.Pool.{Pool}
use Rattle.record_pool.specs.Chains.{along, times}
use Rattle.record_pool.specs.Pools.{links, item_at, items, items_from, held, places, Same, Divided, Becomes}
use Rattle.record_pool.proofs.Divisions.{all_counted, length-held}
use Rattle.record_pool.proofs.Holding.{given, holds}
use Rattle.record_pool.proofs.Orders.{holds_just}
use Rattle.stateless_reset.specs.Tables.{has, Sound, table_of, Remembers, Lent}

-- free records and tokens are as many together as the records
counts : (a : Pool (List ℕ)) (c : Chain) → Divided a (c ∷ []) → a.free.count + length (items a c) ≡ length a.records.now
counts a c d =
    let s = all_counted a (c ∷ []) d in
    let l : length (map (λ x. Some x) (items a c)) ≡ length (held a c) = ap length (given a c [] d) in
    omega (arith, s, l, length-held a c, length-map (items a c) (λ x. Some x), sum_by-cons (λ (k : Chain). k.count) a.free (c ∷ []), sum_by-cons (λ (k : Chain). k.count) c [])

abbrev pub told : Option ℕ → Result (Unit {0}) Refusal
told None = Err ResetTableFull
told (Some p) = Ok tt

pub record Pushed (a b : Pool (List ℕ)) (c c' : Chain) (t : List ℕ) (r : Option ℕ) : Type 0 where
  pub sound : Sound b c'
  pub remembers : Remembers t (table_of a c) (table_of b c') (told r)

unmoved : (a b : Pool (List ℕ)) (c : Chain) → Same a b → Sound a c → Sound b c
unmoved a b c k s =
    let d = s.divided in
    record {
      divided = record {
        size = rw k.records d.size;
        shared = rw (k.records, k.free) d.shared;
      };
      blanked = λ p m.
          let at_a = subst (λ rs. 0 < times p (along (links rs) b.free)) {x = b.records.now} k.records m in
          let from_a = subst (λ f. 0 < times p (along (links a.records.now) f)) {x = b.free} k.free at_a in
          ap (λ rs. item_at rs p) k.records ∙ (s.blanked p from_a ∙ ap Some (sym k.blank));
      blanks = k.blank ∙ s.blanks;
    }

-- a token that is not remembered was pushed to the end
module _ (a b : Pool (List ℕ)) (c c' : Chain) (t : List ℕ) (r : Option ℕ) (s : Sound a c) (new : has (items a c) t ≡ false)
    (e : r ≡ cond (nat_eq a.free.count 0) None (Some a.free.first)) (same : a.free.count ≡ 0 → Same a b × (c' ≡ c))
    (g : 0 < a.free.count → Becomes a b c' [] (places a c ++ a.free.first ∷ []) (held a c ++ Some t ∷ []) (drop 1 (places a a.free))) where
  full : a.free.count ≡ 0 → Pushed a b c c' t r
  full z =
      let k = same z in
      let n = counts a c s.divided in
      let f : nat_le (length a.records.now) (length (items a c)) ≡ true = le-leb _ _ (omega arith) in
      let q : r ≡ None = e ∙ cond-true _ _ _ (eq-eqb a.free.count 0 z) in
      let u : table_of b c' ≡ table_of a c = ap₂ (λ rs h. record { places = length rs; tokens = items_from h.count rs h.first }) k.0.records k.1 in
      record {
        sound = subst (Sound b) (sym k.1) (unmoved a b c k.0 s);
        remembers = record {
          answer = ap told q ∙ sym (cond-false _ _ _ new ∙ cond-true _ _ _ f);
          after = u ∙ sym (cond-false _ _ _ new ∙ cond-true _ _ _ f);
        };
      }

  taken : 0 < a.free.count → Pushed a b c c' t r
  taken h =
      let w = g h in
      let n = counts a c s.divided in
      let f : nat_le (length a.records.now) (length (items a c)) ≡ false = lt-leb _ _ (omega arith) in
      let q : r ≡ Some a.free.first = e ∙ cond-false _ _ _ (ne_eqb a.free.count 0 (λ z. omega arith)) in
      let k = holds a b c c' [] _ _ _ (items a c ++ t ∷ []) s.divided w (ap (λ xs. xs ++ Some t ∷ []) (sym (given a c [] s.divided)) ∙ sym (map-append (λ x. Some x) (items a c) (t ∷ []))) in
      record {
        sound = record { divided = w.divided; blanked = w.blanked s.blanked; blanks = w.blank ∙ s.blanks };
        remembers = record {
          answer = ap told q ∙ sym (cond-false _ _ _ new ∙ cond-false _ _ _ f);
          after = ap₂ (λ n ts. record { places = n; tokens = ts }) w.size k.gives ∙ sym (cond-false _ _ _ new ∙ cond-false _ _ _ f);
        };
      }

  pub pushed : Pushed a b c c' t r
  pushed = ⊎_elim taken (λ le. full (omega arith)) (cases_lt 0 a.free.count)

-- what the records hold
pub lends : (pool : Pool (List ℕ)) (c : Chain) → Sound pool c → Lent (table_of pool c) pool.records.now
lends pool c s = record {
  all = refl;
  hold = rw (append-nil (items pool c), s.blanks) at (holds_just pool (c ∷ []) s.divided s.blanked);
}
