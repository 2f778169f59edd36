-- What the calls of a pool make of a table's paths.
use Rattle.std.proofs.Common.{nat_eq, Bool, cond, Result, ◌≡◌, ℕ, zero, suc, ◌+◌, ◌<◌, ◌≤◌, ◌≢◌, List, [], ◌∷◌, ◌++◌, map, length, replicate, drop, Some, None, Option, slice_index, slice_index_or, slice_set, sym, refl, ap, ap₂, ◌∙◌, subst, ⊎_elim, arith}
use Rattle.std.specs.List.{flat_map}
use Rattle.std.specs.Option.{ok_or, option_flatten}
use Rattle.std.specs.Prelude.{IfOk}
use lib.ListN.{length-map}
use Rattle.std.proofs.lemmas.Bool.{cases_eq, cond-false, ne_eqb}
use Rattle.std.proofs.lemmas.List.{map-set, map-append}
use Rattle.answers.specs.declared.Refusal.{Refusal}
use Rattle.answers.specs.declared.Refusal.TheVariants.{NoPath}
use Rattle.record_pool.specs.declared.chain.Chain.{Chain}
use Rattle.record_pool.specs.declared.record.Record.{Record}
use Rattle.record_pool.specs.declared.pool.Pool.{Pool}
use Rattle.record_pool.specs.Chains.{walk, along, times, hit, empty_chain}
use Rattle.record_pool.specs.Pools.{Blanked, links, slots, item_at, some_at, one_put, blank_at, places, held, nth, Divided, Becomes, Leaves}
use Rattle.record_pool.proofs.Runs.{hit_same, hit_other, times-++, length-walk, get_d_walk}
use Rattle.record_pool.proofs.Sharing.{with_empty, none_or, met_at, in_range}
use Rattle.record_pool.proofs.Divisions.{to_front, from_front, without_empty}
use Rattle.record_pool.proofs.Holding.{some_same}
use Rattle.path_table.specs.declared.meter.Meter.{Meter}
use Rattle.path_table.specs.Meters.{Sound, fresh}
use Rattle.path_table.specs.Paths.{path, with_path, meter_at}
use Rattle.path_table.specs.Tables.{alone, paths, Stands, Standing}
use Rattle.path_table.proofs.Ledger.{other_path, same_path, there, none_at}

-- ---- items

abbrev pub flat : Option (Option Meter) → Option Meter
flat None = None
flat (Some o) = o

flat_index : (rs : List (Record (Option Meter))) (p : ℕ) → slice_index_or (map (λ r. r.item) rs) p None ≡ flat (slice_index_or (map (λ r. Some r.item) rs) p None)
flat_index [] zero = refl
flat_index [] (suc p) = refl
flat_index (r ∷ rs) zero = refl
flat_index (r ∷ rs) (suc p) = flat_index rs p

pub path_item : (pool : Pool (Option Meter)) (p : ℕ) → path (paths pool) p ≡ flat (item_at pool.records.now p)
path_item pool zero = refl
path_item pool (suc p) = flat_index pool.records.now p

somes : (rs : List (Record (Option Meter))) → map (λ r. Some r.item) rs ≡ map (λ x. Some x) (map (λ r. r.item) rs)
somes [] = refl
somes (r ∷ rs) = ap (λ ys. Some r.item ∷ ys) (somes rs)

pub put_paths : (a b : Pool (Option Meter)) (p : ℕ) (o : Option Meter) → slots b.records.now ≡ some_at (slots a.records.now) p o → paths b ≡ with_path (paths a) p o
put_paths a b zero o e = some_same (paths b) (paths a) (sym (somes b.records.now) ∙ ap (drop 1) e ∙ somes a.records.now)
put_paths a b (suc p) o e =
    some_same (paths b) (slice_set (paths a) p o)
    (sym (somes b.records.now) ∙ ap (drop 1) e ∙ ap (λ ys. slice_set ys p (Some o)) (somes a.records.now) ∙ sym (map-set (λ x. Some x) (paths a) p o))

some_nones : (n : ℕ) → replicate n (Some None) ≡ map (λ (o : Option Meter). Some o) (replicate n None)
some_nones zero = refl
some_nones (suc n) = ap (λ ys. Some None ∷ ys) (some_nones n)

pub blank_paths : (pool : Pool (Option Meter)) (n : ℕ) → slots pool.records.now ≡ None ∷ replicate n (Some None) → paths pool ≡ replicate n None
blank_paths pool n e = some_same (paths pool) (replicate n None) (sym (somes pool.records.now) ∙ ap (drop 1) e ∙ some_nones n)

pub length_paths : (pool : Pool (Option Meter)) → length (paths pool) ≡ length pool.records.now
length_paths pool = length-map pool.records.now (λ r. r.item)

-- ---- where names stand

flat_alone : (nx names : List ℕ) → flat_map (along nx) (map alone names) ≡ names
flat_alone nx [] = refl
flat_alone nx (p ∷ names) = ap (λ ps. p ∷ ps) (flat_alone nx names)

-- each name stands once, free or in use
stands_once : (pool : Pool (Option Meter)) (names : List ℕ) (p : ℕ) → Divided pool (map alone names) → 0 < p → p ≤ length pool.records.now
    → times p (places pool pool.free) + times p names ≡ 1
stands_once pool names p d lo hi =
    let nx = links pool.records.now in
    let o : times p (along nx pool.free ++ flat_map (along nx) (map alone names)) ≡ 1 = d.shared.once p lo hi in
    let s : times p (along nx pool.free ++ flat_map (along nx) (map alone names)) ≡ times p (along nx pool.free) + times p (flat_map (along nx) (map alone names)) = times-++ p _ _ in
    let e : times p (flat_map (along nx) (map alone names)) ≡ times p names = ap (times p) (flat_alone nx names) in
    omega arith

free_none : (pool : Pool (Option Meter)) (names : List ℕ) (p : ℕ) → Stands pool names → 1 ≤ times p (places pool pool.free) → path (paths pool) p ≡ None
free_none pool names p st h = path_item pool p ∙ ap flat (st.blanked p h ∙ ap Some st.blank)

none_some : {X : Type 0} (o : Option Meter) (m : Meter) → o ≡ None → o ≡ Some m → X
none_some o m a b = absurd (let e : ◌≡◌ {A = Option Meter} None (Some m) = sym a ∙ b in cc)

same_some : (x y : Meter) → ◌≡◌ {A = Option Meter} (Some x) (Some y) → x ≡ y
same_some x y e = cc

-- an open path stands once among the names
pub named : (pool : Pool (Option Meter)) (names : List ℕ) (p : ℕ) (m : Meter) → Stands pool names → path (paths pool) p ≡ Some m → times p names ≡ 1
named pool names p m st e =
    let t = there (paths pool) p m e in
    let o = stands_once pool names p st.divided t.0 (omega (arith, t.1, length_paths pool)) in
    ⊎_elim (λ z. omega arith) (λ h. none_some (path (paths pool) p) m (free_none pool names p st h) e) (none_or (times p (places pool pool.free)))

record Split (p : ℕ) (names : List ℕ) : Type 0 where
  pub front : List ℕ
  pub back : List ℕ
  pub is : names ≡ front ++ p ∷ back

split : (p : ℕ) (names : List ℕ) → 1 ≤ times p names → Split p names
split p [] h = absurd (omega arith)
split p (x ∷ names) h =
    ⊎_elim (λ e. record { front = []; back = names; is = ap (λ y. y ∷ names) e })
    (λ ne.
    let z : hit p x ≡ 0 = hit_other p x ne in
    let r : Split p names = split p names (omega arith) in
    record { front = x ∷ r.front; back = r.back; is = ap (λ ys. x ∷ ys) r.is })
    (cases_eq x p)

chain_is : (c : Chain) (nx : List ℕ) (p : ℕ) → along nx c ≡ p ∷ [] → c ≡ alone p
chain_is c nx p e =
    let n : c.count ≡ 1 = sym (length-walk c.count nx c.first) ∙ ap length e in
    let f : c.first ∷ [] ≡ p ∷ [] = ap (λ k. walk k nx c.first) (sym n) ∙ e in
    ap₂ (λ s k. record { first = s; count = k }) (ap (λ ys. slice_index ys 0) f) n

-- ---- one path altered

module _ (a b : Pool (Option Meter)) (p : ℕ) (o : Option Meter) (w : paths b ≡ with_path (paths a) p o) where
  elsewhere : (q : ℕ) → q ≢ p → path (paths b) q ≡ path (paths a) q
  elsewhere q ne = ap (λ z. path z q) w ∙ other_path (paths a) p q o ne

  here : 0 < p → p ≤ length a.records.now → path (paths b) p ≡ o
  here lo hi = ap (λ z. path z p) w ∙ same_path (paths a) p o lo (omega (arith, hi, length_paths a))

-- the path of a name in use is written
module _ (a b : Pool (Option Meter)) (names : List ℕ) (st : Stands a names) (p : ℕ) (m0 m : Meter) (e : path (paths a) p ≡ Some m0) (so : Sound m)
    (lv : Leaves a b (some_at (slots a.records.now) p (Some m)))
    (ch : (chain : Chain) (others : List Chain) (k : ℕ) → Divided a (chain ∷ others) → nth (places a chain) k ≡ Some p
    → Becomes a b chain others (places a chain) (slice_set (held a chain) k (Some (Some m))) (places a a.free)) where
  set_is : paths b ≡ with_path (paths a) p (Some m)
  set_is = put_paths a b p (Some m) lv.slots

  set_here : path (paths b) p ≡ Some m
  set_here = let t = there (paths a) p m0 e in here a b p (Some m) set_is t.0 (omega (arith, t.1, length_paths a))

  pub set_stands : Stands b names
  set_stands =
      let s = split p names (omega (arith, named a names p m0 st e)) in
      let c : map alone names ≡ map alone s.front ++ alone p ∷ map alone s.back = ap (map alone) s.is ∙ map-append alone s.front (p ∷ s.back) in
      let d : Divided a (alone p ∷ (map alone s.front ++ map alone s.back))
      = to_front a (map alone s.front) (map alone s.back) (alone p) (subst (Divided a) {x = map alone names} c st.divided) in
      record {
        divided = subst (Divided b) {y = map alone names} (sym c)
            (from_front b (map alone s.front) (map alone s.back) (alone p) (ch (alone p) (map alone s.front ++ map alone s.back) 0 d refl).divided);
        blanked = (ch (alone p) (map alone s.front ++ map alone s.back) 0 d refl).blanked st.blanked;
        blank = lv.blank ∙ st.blank;
        open_here = λ q h. ⊎_elim (λ z. (m, ap (path (paths b)) z ∙ set_here))
            (λ ne. let o = st.open_here q h in (o.0, elsewhere a b p (Some m) set_is q ne ∙ o.1)) (cases_eq q p);
        sound = λ q k f. ⊎_elim
            (λ z. subst Sound {x = m} (same_some m k (sym set_here ∙ sym (ap (path (paths b)) z) ∙ f)) so)
            (λ ne. st.sound q k (sym (elsewhere a b p (Some m) set_is q ne) ∙ f)) (cases_eq q p);
      }

-- a path opens in the first free record
module _ (a b : Pool (Option Meter)) (c c' : Chain) (names : List ℕ) (st : Stands a names) (m : Meter) (so : Sound m) (some : 0 < a.free.count) (ec : c ≡ empty_chain)
    (lv : Leaves a b (one_put a (Some m)))
    (ch : (others : List Chain) → 0 < a.free.count → Divided a (c ∷ others)
    → Becomes a b c' others (a.free.first ∷ places a c) (Some (Some m) ∷ held a c) (drop 1 (places a a.free))) where
  first : 1 ≤ times a.free.first (places a a.free)
  first =
      let l : length (places a a.free) ≡ a.free.count = length-walk a.free.count (links a.records.now) a.free.first in
      subst (λ p. 1 ≤ times p (places a a.free)) (get_d_walk a.free.count 0 (links a.records.now) a.free.first some)
      (met_at (places a a.free) 0 (omega arith))

  in_table : (0 < a.free.first) × (a.free.first ≤ length a.records.now)
  in_table = in_range (length a.records.now) (links a.records.now) a.free (map alone names) a.free.first st.divided.shared first

  was_free : path (paths a) a.free.first ≡ None
  was_free = free_none a names a.free.first st first

  becomes : Becomes a b c' (map alone names) (a.free.first ∷ []) (Some (Some m) ∷ []) (drop 1 (places a a.free))
  becomes =
      subst (λ k. Becomes a b c' (map alone names) (a.free.first ∷ places a k) (Some (Some m) ∷ held a k) (drop 1 (places a a.free))) {x = c} ec
      (ch (map alone names) some (subst (λ k. Divided a (k ∷ map alone names)) {x = empty_chain} (sym ec) (record {
        size = st.divided.size;
        shared = with_empty (length a.records.now) (links a.records.now) a.free (map alone names) st.divided.shared;
      })))

  its_chain : c' ≡ alone a.free.first
  its_chain = chain_is c' (links b.records.now) a.free.first becomes.stands

  opened_is : paths b ≡ with_path (paths a) a.free.first (Some m)
  opened_is = put_paths a b a.free.first (Some m) (lv.slots ∙ cond-false (nat_eq a.free.count 0) _ _ (ne_eqb a.free.count 0 (λ z. omega arith)))

  opened_here : path (paths b) a.free.first ≡ Some m
  opened_here = here a b a.free.first (Some m) opened_is in_table.0 in_table.1

  opened_standing : Standing b
  opened_standing = record {
    names = a.free.first ∷ names;
    stands = record {
      divided = subst (λ k. Divided b (k ∷ map alone names)) {x = c'} its_chain becomes.divided;
      blanked = becomes.blanked st.blanked;
      blank = lv.blank ∙ st.blank;
      open_here = λ q h. ⊎_elim (λ z. (m, ap (path (paths b)) z ∙ opened_here))
          (λ ne.
          let z : hit q a.free.first ≡ 0 = hit_other q a.free.first (λ k. ne (sym k)) in
          let o = st.open_here q (omega arith) in
          (o.0, elsewhere a b a.free.first (Some m) opened_is q ne ∙ o.1)) (cases_eq q a.free.first);
      sound = λ q k f. ⊎_elim
          (λ z. subst Sound {x = m} (same_some m k (sym opened_here ∙ sym (ap (path (paths b)) z) ∙ f)) so)
          (λ ne. st.sound q k (sym (elsewhere a b a.free.first (Some m) opened_is q ne) ∙ f)) (cases_eq q a.free.first);
    };
  }

pub record Opened (a b : Pool (Option Meter)) (c : Chain) (m : Meter) (p : ℕ) : Type 0 where
  pub low : 0 < p
  pub high : p ≤ length (paths a)
  pub free : path (paths a) p ≡ None
  pub is : paths b ≡ with_path (paths a) p (Some m)
  pub chain : c ≡ alone p
  pub standing : Standing b

pub opened : (a b : Pool (Option Meter)) (c c' : Chain) (names : List ℕ) → Stands a names → (m : Meter) → Sound m → 0 < a.free.count → c ≡ empty_chain
    → Leaves a b (one_put a (Some m))
    → ((others : List Chain) → 0 < a.free.count → Divided a (c ∷ others)
    → Becomes a b c' others (a.free.first ∷ places a c) (Some (Some m) ∷ held a c) (drop 1 (places a a.free)))
    → (p : ℕ) → p ≡ a.free.first → Opened a b c' m p
opened a b c c' names st m so some ec lv ch p e = subst (Opened a b c' m) {x = a.free.first} (sym e) (record {
  low = (in_table a b c c' names st m so some ec lv ch).0;
  high = omega (arith, (in_table a b c c' names st m so some ec lv ch).1, length_paths a);
  free = was_free a b c c' names st m so some ec lv ch;
  is = opened_is a b c c' names st m so some ec lv ch;
  chain = its_chain a b c c' names st m so some ec lv ch;
  standing = opened_standing a b c c' names st m so some ec lv ch;
})

-- where no record is free, each name has a path
pub all_open : (pool : Pool (Option Meter)) (names : List ℕ) → Stands pool names → pool.free.count ≡ 0 → (p : ℕ) → 0 < p → p ≤ length (paths pool) → (m : Meter) × (path (paths pool) p ≡ Some m)
all_open pool names st z p lo hi =
    let o = stands_once pool names p st.divided lo (omega (arith, hi, length_paths pool)) in
    let f : times p (places pool pool.free) ≡ 0 = ap (λ k. times p (walk k (links pool.records.now) pool.free.first)) z in
    st.open_here p (omega arith)

-- a path is closed
module _ (a b : Pool (Option Meter)) (chain c' : Chain) (names : List ℕ) (st : Stands a names) (p : ℕ) (m0 : Meter) (e : path (paths a) p ≡ Some m0) (zc : chain ≡ alone p) (ec : c' ≡ empty_chain)
    (lv : Leaves a b (blank_at a (places a chain)))
    (ch : (others : List Chain) → Divided a (chain ∷ others) → Becomes a b c' others [] [] (places a chain ++ places a a.free)) where
  pub closed_is : paths b ≡ with_path (paths a) p None
  closed_is = put_paths a b p None (lv.slots ∙ ap (λ k. blank_at a (places a k)) zc ∙ ap (some_at (slots a.records.now) p) st.blank)

  closed_here : path (paths b) p ≡ None
  closed_here = let t = there (paths a) p m0 e in here a b p None closed_is t.0 (omega (arith, t.1, length_paths a))

  pub closed_standing : Standing b
  closed_standing =
      let once = named a names p m0 st e in
      let s = split p names (omega arith) in
      let both : map alone names ≡ map alone s.front ++ alone p ∷ map alone s.back = ap (map alone) s.is ∙ map-append alone s.front (p ∷ s.back) in
      let d : Divided a (chain ∷ (map alone s.front ++ map alone s.back))
      = subst (λ k. Divided a (k ∷ (map alone s.front ++ map alone s.back))) {x = alone p} (sym zc)
      (to_front a (map alone s.front) (map alone s.back) (alone p) (subst (Divided a) {x = map alone names} both st.divided)) in
      let counts : (q : ℕ) → times q names ≡ times q (s.front ++ s.back) + hit q p
      = λ q.
      let x : times q names ≡ times q (s.front ++ p ∷ s.back) = ap (times q) s.is in
      let y : times q (s.front ++ p ∷ s.back) ≡ times q s.front + times q (p ∷ s.back) = times-++ q s.front (p ∷ s.back) in
      let v : times q (s.front ++ s.back) ≡ times q s.front + times q s.back = times-++ q s.front s.back in
      omega arith in
      record {
        names = s.front ++ s.back;
        stands = record {
          divided = subst (Divided b) {x = map alone s.front ++ map alone s.back} (sym (map-append alone s.front s.back))
              (without_empty b c' (map alone s.front ++ map alone s.back) (ap (λ k. k.count) ec) (ch (map alone s.front ++ map alone s.back) d).divided);
          blanked = (ch (map alone s.front ++ map alone s.back) d).blanked st.blanked;
          blank = lv.blank ∙ st.blank;
          open_here = λ q h. ⊎_elim
              (λ z. absurd (let n : times p (s.front ++ s.back) + hit p p ≡ 1 = sym (counts p) ∙ once in let o = hit_same p in let g : 1 ≤ times p (s.front ++ s.back) = subst (λ k. 1 ≤ times k (s.front ++ s.back)) z h in omega arith))
              (λ ne. let o = st.open_here q (omega (arith, counts q)) in (o.0, elsewhere a b p None closed_is q ne ∙ o.1)) (cases_eq q p);
          sound = λ q k f. ⊎_elim
              (λ z. none_some (path (paths b) q) k (ap (path (paths b)) z ∙ closed_here) f)
              (λ ne. st.sound q k (sym (elsewhere a b p None closed_is q ne) ∙ f)) (cases_eq q p);
        };
      }

-- ---- a new table

pub new_standing : (pool : Pool (Option Meter)) (n : ℕ) → Divided pool [] → Blanked pool → pool.blank ≡ None → paths pool ≡ replicate n None → Standing pool
new_standing pool n d bl b e = record {
  names = [];
  stands = record {
    divided = d;
    blanked = bl;
    blank = b;
    open_here = λ p h. absurd (omega arith);
    sound = λ p m f. none_some (path (paths pool) p) m (ap (λ ps. path ps p) e ∙ none_at n p) f;
  };
}

-- ---- answers of the pool

pub meter_told : (o : Option (Option Meter)) → ok_or (option_flatten o) NoPath ≡ meter_at (flat o)
meter_told None = refl
meter_told (Some None) = refl
meter_told (Some (Some m)) = refl

pub sound_told : (o : Option Meter) (r : Result Meter Refusal) → r ≡ meter_at o → ((m : Meter) → o ≡ Some m → Sound m) → IfOk r Sound
sound_told None r e h = rw e tt
sound_told (Some m) r e h = rw e (h m refl)

pub none_free : (count first : ℕ) (o : Option ℕ) → o ≡ cond (nat_eq count 0) None (Some first) → o ≡ None → count ≡ 0
none_free zero first o e n = refl
none_free (suc k) first o e n = absurd (let x : ◌≡◌ {A = Option ℕ} (Some first) None = sym (e ∙ cond-false _ _ _ (ne_eqb (suc k) 0 (λ z. omega arith))) ∙ n in cc)

pub some_free : (count first p : ℕ) (o : Option ℕ) → o ≡ cond (nat_eq count 0) None (Some first) → o ≡ Some p → (0 < count) × (p ≡ first)
some_free zero first p o e n = absurd (let x : ◌≡◌ {A = Option ℕ} None (Some p) = sym e ∙ n in cc)
some_free (suc k) first p o e n = (omega arith, (let x : ◌≡◌ {A = Option ℕ} (Some p) (Some first) = sym n ∙ e ∙ cond-false _ _ _ (ne_eqb (suc k) 0 (λ z. omega arith)) in cc))

pub fresh_sound : (v : Bool) → Sound (fresh v)
fresh_sound v = record { limit = omega arith; within = λ e. omega arith }
