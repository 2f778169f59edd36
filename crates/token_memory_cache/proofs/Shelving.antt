-- What each step does to a shelf, over its pools before and after.
use Rattle.std.proofs.Common.{◌≡◌, ℕ, zero, suc, ◌+◌, ◌*◌, ◌^◌, ◌<◌, ◌≤◌, true, false, if◌then◌else◌, nat_le, List, [], ◌∷◌, ◌++◌, map, length, slice_index_or, take, drop, Some, None, sym, refl, ap, ap₂, ◌∙◌, subst, arith}
use Rattle.std.specs.List.{sum_by}
use Rattle.std.proofs.lemmas.Bool.{and_parts, cond_both, cond-true, cond-false, le-leb, lt-leb, leb-true, leb-false}
use Rattle.std.proofs.lemmas.List.{length-drop, map-append, drop-map, take-append-drop, drop_more, get_or-map}
use lib.ListN.{length-map}
use Rattle.std.proofs.Math.Nat.{suc-mul}
use Rattle.std.proofs.lemmas.List.Sums.{sum_by-cons}
use Rattle.record_pool.specs.declared.chain.Chain.{Chain}
use Rattle.record_pool.specs.declared.pool.Pool.{Pool}
use Rattle.record_pool.specs.Chains.{empty_chain, without as cut}
use Rattle.record_pool.specs.Pools.{nth, held, items, Divided, Becomes as PoolBecomes}
use Rattle.record_pool.proofs.Divisions.{to_front, from_front, all_counted, length-held, without_empty}
use Rattle.record_pool.proofs.Holding.{Holds, holds, given, to_end}
use Rattle.record_pool.proofs.Steps.{map-without}
use Rattle.token_store.specs.Store.{Bytes}
use Rattle.token_memory_cache.specs.Cache.{has, added, fits}
use Rattle.token_memory_cache.specs.declared.shelf.NameEntry.{NameEntry}
use Rattle.token_memory_cache.specs.declared.shelf.Shelf.{Shelf}
use Rattle.token_memory_cache.specs.Shelves.{listed, chains, entry_in, entries, Stands, TakenOff, Becomes, Refilled, Room}

-- the chain of a name
abbrev pub chain_of : NameEntry → Chain
chain_of e = e.tokens

abbrev pub shelf : Pool NameEntry → Pool Bytes → Chain → Shelf
shelf names tokens used = record { names = names; tokens = tokens; used = used }

-- entries of which each chain holds what it held
entries_same : (t t' : Pool Bytes) (hs : List NameEntry) → map (items t') (map chain_of hs) ≡ map (items t) (map chain_of hs) → map (entry_in t') hs ≡ map (entry_in t) hs
entries_same t t' [] e = refl
entries_same t t' (h ∷ hs) e =
    ap₂ (λ ts es. record { name = h.name; tokens = ts } ∷ es) (ap (λ l. slice_index_or l 0 []) e) (entries_same t t' hs (ap (drop 1) e))

-- element k, and what stands before and behind it
split_at : {X : Type 0} (k : ℕ) (xs : List X) (d : X) → k < length xs → xs ≡ take k xs ++ slice_index_or xs k d ∷ drop (k + 1) xs
split_at k xs d h = sym (take-append-drop k xs) ∙ ap (λ ys. take k xs ++ ys) (drop_more xs k d h)

-- how long a chain is
pub length-items : {X : Type 0} (pool : Pool X) (c : Chain) (cs : List Chain) → Divided pool (c ∷ cs) → length (items pool c) ≡ c.count
length-items pool c cs d = sym (length-map (items pool c) (λ x. Some x)) ∙ ap length (given pool c cs d) ∙ length-held pool c

pub few_listed : (s : Shelf) (loose : List Chain) → Stands loose s → length (listed s) < 2 ^ 32
few_listed s loose st =
    let l = length-items s.names s.used [] st.names in
    let n = all_counted s.names (s.used ∷ []) st.names in
    let m = st.names.size in
    omega arith

-- what is held at a position
pub read : {X : Type 0} (pool : Pool X) (c : Chain) (cs : List Chain) (k : ℕ) (d : X) → Divided pool (c ∷ cs) → k < length (items pool c)
    → slice_index_or (held pool c) k None ≡ Some (slice_index_or (items pool c) k d)
read pool c cs k d v l = ap (λ xs. slice_index_or xs k None) (sym (given pool c cs v)) ∙ get_or-map (λ x. Some x) (items pool c) k d None l

-- ---- a name taken off

without_one : (t : Pool Bytes) (hs : List NameEntry) (k : ℕ) (d : NameEntry) → k < length hs → Divided t (map chain_of hs) → Divided t ((slice_index_or hs k d).tokens ∷ map chain_of (cut k hs))
without_one t hs k d h v =
    let c = (slice_index_or hs k d).tokens in
    let front = map chain_of (take k hs) in
    let back = map chain_of (drop (k + 1) hs) in
    let whole : map chain_of hs ≡ front ++ c ∷ back = ap (map chain_of) (split_at k hs d h) ∙ map-append chain_of (take k hs) (slice_index_or hs k d ∷ drop (k + 1) hs) in
    let rest : map chain_of (cut k hs) ≡ front ++ back = map-append chain_of (take k hs) (drop (k + 1) hs) in
    subst (λ cs. Divided t (c ∷ cs)) (sym rest) (to_front t front back c (subst (Divided t) whole v))

pub taken_off : (s : Shelf) (names' : Pool NameEntry) (used' : Chain) (ps fs : List ℕ) (k : ℕ) (x : NameEntry) → Stands [] s → k < length (listed s)
    → PoolBecomes s.names names' used' [] ps (cut k (held s.names s.used)) fs → slice_index_or (held s.names s.used) k None ≡ Some x
    → TakenOff k s (shelf names' s.tokens used') x.tokens
taken_off s names' used' ps fs k x st l b e =
    let hs = listed s in
    let g = given s.names s.used [] st.names in
    let h = holds s.names names' s.used used' [] ps _ fs (cut k hs) st.names b (ap (cut k) (sym g) ∙ sym (map-without (λ y. Some y) k hs)) in
    let r = read s.names s.used [] k x st.names l in
    let is : slice_index_or hs k x ≡ x = cc in
    record {
      stands = record {
        names = h.divided;
        tokens = subst (λ xs. Divided s.tokens (x.tokens ∷ map chain_of xs)) (sym h.gives)
            (subst (λ y. Divided s.tokens (y.tokens ∷ map chain_of (cut k hs))) is (without_one s.tokens hs k x l st.tokens));
        blanked = (h.blanked st.blanked.0, st.blanked.1);
        blank = (h.blank ∙ st.blank.0, st.blank.1);
      };
      left = ap (map (entry_in s.tokens)) h.gives ∙ map-without (entry_in s.tokens) k hs;
      tokens = λ d. ap (λ y. items s.tokens y.tokens) (sym is) ∙ ap (λ y. y.tokens) (sym (get_or-map (entry_in s.tokens) hs k x d l));
      size = record { names = h.size; tokens = refl };
    }

-- ---- room made for a name

pub room_there : (s : Shelf) (most : ℕ) → Stands [] s → s.used.count < most → Becomes [] s s (if nat_le most (length (entries s)) then drop 1 (entries s) else entries s)
room_there s most st l =
    let n = length-items s.names s.used [] st.names in
    let m = length-map (listed s) (entry_in s.tokens) in
    record {
      stands = st;
      left = sym (cond-false (nat_le most (length (entries s))) _ _ (lt-leb most (length (entries s)) (omega arith)));
      size = record { names = refl; tokens = refl };
    }

pub roomed : (s : Shelf) (names' : Pool NameEntry) (tokens' : Pool Bytes) (used' c' : Chain) (ps fs gs : List ℕ) (most : ℕ) (x : NameEntry) → Stands [] s → 0 < most → most ≤ s.used.count
    → PoolBecomes s.names names' used' [] ps (drop 1 (held s.names s.used)) fs → slice_index_or (held s.names s.used) 0 None ≡ Some x
    → ((others : List Chain) → Divided s.tokens (x.tokens ∷ others) → PoolBecomes s.tokens tokens' c' others [] [] gs) → c' ≡ empty_chain
    → Becomes [] s (shelf names' tokens' used') (if nat_le most (length (entries s)) then drop 1 (entries s) else entries s)
roomed s names' tokens' used' c' ps fs gs most x st z l b e rel ec =
    let hs = listed s in
    let n = length-items s.names s.used [] st.names in
    let m = length-map hs (entry_in s.tokens) in
    let g = given s.names s.used [] st.names in
    let h = holds s.names names' s.used used' [] ps _ fs (drop 1 hs) st.names b (ap (drop 1) (sym g) ∙ drop-map (λ y. Some y) 1 hs) in
    let some : 0 < length hs = omega arith in
    let r = read s.names s.used [] 0 x st.names some in
    let is : slice_index_or hs 0 x ≡ x = cc in
    let others = map chain_of (drop 1 hs) in
    let v : Divided s.tokens (x.tokens ∷ others) = subst (λ y. Divided s.tokens (y.tokens ∷ others)) is (without_one s.tokens hs 0 x some st.tokens) in
    let k = holds s.tokens tokens' x.tokens c' others [] [] gs [] v (rel others v) refl in
    record {
      stands = record {
        names = h.divided;
        tokens = subst (λ xs. Divided tokens' (map chain_of xs)) (sym h.gives) (without_empty tokens' c' others (ap (λ y. y.count) ec) k.divided);
        blanked = (h.blanked st.blanked.0, k.blanked st.blanked.1);
        blank = (h.blank ∙ st.blank.0, k.blank ∙ st.blank.1);
      };
      left = ap (map (entry_in tokens')) h.gives ∙ entries_same s.tokens tokens' (drop 1 hs) k.rest ∙ sym (drop-map (entry_in s.tokens) 1 hs)
          ∙ sym (cond-true (nat_le most (length (entries s))) _ _ (le-leb most (length (entries s)) (omega arith)));
      size = record { names = h.size; tokens = k.size };
    }

-- ---- a name put back

pub free_name : (s : Shelf) (loose : List Chain) → Stands loose s → length (entries s) < length s.names.records.now → 0 < s.names.free.count
free_name s loose st l =
    let n = length-items s.names s.used [] st.names in
    let m = length-map (listed s) (entry_in s.tokens) in
    let a = all_counted s.names (s.used ∷ []) st.names in
    omega arith

pub put : (s : Shelf) (names' : Pool NameEntry) (used' : Chain) (ps fs : List ℕ) (n : Bytes) (c : Chain) → Stands (c ∷ []) s
    → PoolBecomes s.names names' used' [] ps (held s.names s.used ++ Some (record { name = n; tokens = c }) ∷ []) fs
    → Becomes [] s (shelf names' s.tokens used') (entries s ++ record { name = n; tokens = items s.tokens c } ∷ [])
put s names' used' ps fs n c st b =
    let hs = listed s in
    let e : NameEntry = record { name = n; tokens = c } in
    let g = given s.names s.used [] st.names in
    let h = holds s.names names' s.used used' [] ps _ fs (hs ++ e ∷ []) st.names b (ap (λ l. l ++ Some e ∷ []) (sym g) ∙ sym (map-append (λ y. Some y) hs (e ∷ []))) in
    record {
      stands = record {
        names = h.divided;
        tokens = subst (λ xs. Divided s.tokens (map chain_of xs)) (sym h.gives) (subst (Divided s.tokens) (sym (map-append chain_of hs (e ∷ []))) (to_end s.tokens c (map chain_of hs) st.tokens));
        blanked = (h.blanked st.blanked.0, st.blanked.1);
        blank = (h.blank ∙ st.blank.0, st.blank.1);
      };
      left = ap (map (entry_in s.tokens)) h.gives ∙ map-append (entry_in s.tokens) hs (e ∷ []);
      size = record { names = h.size; tokens = refl };
    }

-- ---- a token added

-- at most so many tokens a name
counted : (t : Pool Bytes) (most : ℕ) (hs : List NameEntry) (others : List Chain) → Divided t (map chain_of hs ++ others) → fits most (map (entry_in t) hs) ≡ true
    → sum_by (λ (c : Chain). c.count) (map chain_of hs) ≤ length hs * most
counted t most [] others d f = omega arith
counted t most (h ∷ hs) others d f =
    let p = and_parts _ _ f in
    let rest = counted t most hs (h.tokens ∷ others) (from_front t (map chain_of hs) others h.tokens d) p.1 in
    let first : length (items t h.tokens) ≤ most = leb-true _ _ p.0 in
    let n = length-items t h.tokens (map chain_of hs ++ others) d in
    let s = sum_by-cons (λ (c : Chain). c.count) h.tokens (map chain_of hs) in
    let m : suc (length hs) * most ≡ length hs * most + most = suc-mul (length hs) most in
    omega arith

-- the tokens of a loose chain, where the pool and the chain are changed on the way
pub record Middle (s m : Shelf) (c : Chain) (ts : List Bytes) : Type 0 where
  pub names : m.names ≡ s.names
  pub used : m.used ≡ s.used
  pub holds : Holds s.tokens m.tokens c (chains s) ts

abbrev pub dropped : ℕ → List Bytes → List Bytes
dropped most ts = if nat_le most (length ts) then drop 1 ts else ts

pub popped : (s : Shelf) (t' : Pool Bytes) (c c' : Chain) (ps fs : List ℕ) (most : ℕ) → Stands (c ∷ []) s → most ≤ c.count
    → PoolBecomes s.tokens t' c' (chains s) ps (drop 1 (held s.tokens c)) fs → Middle s (shelf s.names t' s.used) c' (dropped most (items s.tokens c))
popped s t' c c' ps fs most st l b =
    let ts = items s.tokens c in
    let n = length-items s.tokens c (chains s) st.tokens in
    let g = given s.tokens c (chains s) st.tokens in
    let full : dropped most ts ≡ drop 1 ts = cond-true (nat_le most (length ts)) _ _ (le-leb most (length ts) (omega arith)) in
    record {
      names = refl;
      used = refl;
      holds = subst (Holds s.tokens t' c' (chains s)) (sym full) (holds s.tokens t' c c' (chains s) ps _ fs (drop 1 ts) st.tokens b (ap (drop 1) (sym g) ∙ drop-map (λ y. Some y) 1 ts));
    }

pub not_full : (s : Shelf) (c : Chain) (most : ℕ) → Stands (c ∷ []) s → c.count < most → Middle s s c (dropped most (items s.tokens c))
not_full s c most st l =
    let ts = items s.tokens c in
    let n = length-items s.tokens c (chains s) st.tokens in
    let room : dropped most ts ≡ ts = cond-false (nat_le most (length ts)) _ _ (lt-leb most (length ts) (omega arith)) in
    record {
      names = refl;
      used = refl;
      holds = subst (Holds s.tokens s.tokens c (chains s)) (sym room) (record { divided = st.tokens; size = refl; gives = refl; rest = refl; blank = refl; blanked = λ bl. bl });
    }

pub duplicate : (s : Shelf) (c : Chain) (most : ℕ) (t : Bytes) → Stands (c ∷ []) s → has t (items s.tokens c) ≡ true → Refilled s s c (added most t (items s.tokens c))
duplicate s c most t st h = record { stands = st; tokens = sym (cond-true _ _ _ h); left = refl; size = record { names = refl; tokens = refl } }

-- a record is free
pub free_token : (s m : Shelf) (c c' : Chain) (most : ℕ) → Stands (c ∷ []) s → Room most s c → Middle s m c' (dropped most (items s.tokens c)) → 0 < m.tokens.free.count
free_token s m c c' most st r k =
    let ts = items s.tokens c in
    let h = k.holds in
    let few : length (dropped most ts) < most
    = cond_both (nat_le most (length ts)) (drop 1 ts) ts (λ xs. length xs < most) (λ _. let z = r.some in let q = r.short in omega (arith, length-drop 1 ts)) (λ e. leb-false _ _ e) in
    let n = length-items m.tokens c' (chains s) h.divided in
    let g = ap length h.gives in
    let a = all_counted m.tokens (c' ∷ chains s) h.divided in
    let s1 = sum_by-cons (λ (x : Chain). x.count) m.tokens.free (c' ∷ chains s) in
    let s2 = sum_by-cons (λ (x : Chain). x.count) c' (chains s) in
    let l = counted s.tokens most (listed s) (c ∷ []) (to_end s.tokens c (chains s) st.tokens) r.fit in
    let e = length-map (listed s) (entry_in s.tokens) in
    let p = suc-mul (length (listed s)) most in
    let o : length (entries s) + 1 ≡ suc (length (listed s)) = omega arith in
    let o' = ap (λ n. n * most) o in
    let q = r.enough in
    let z = h.size in
    omega arith

pub refilled : (s m : Shelf) (t' : Pool Bytes) (c c' c'' : Chain) (ps fs : List ℕ) (most : ℕ) (t : Bytes) → Stands (c ∷ []) s → has t (items s.tokens c) ≡ false
    → Middle s m c' (dropped most (items s.tokens c)) → PoolBecomes m.tokens t' c'' (chains s) ps (held m.tokens c' ++ Some t ∷ []) fs
    → Refilled s (shelf m.names t' m.used) c'' (added most t (items s.tokens c))
refilled s m t' c c' c'' ps fs most t st absent k b =
    let h = k.holds in
    let g = given m.tokens c' (chains s) h.divided in
    let j = holds m.tokens t' c' c'' (chains s) ps _ fs (items m.tokens c' ++ t ∷ []) h.divided b (ap (λ l. l ++ Some t ∷ []) (sym g) ∙ sym (map-append (λ y. Some y) (items m.tokens c') (t ∷ []))) in
    rw (k.names, k.used) (record {
      stands = record { names = st.names; tokens = j.divided; blanked = (st.blanked.0, j.blanked (h.blanked st.blanked.1)); blank = (st.blank.0, j.blank ∙ h.blank ∙ st.blank.1) };
      tokens = j.gives ∙ ap (λ l. l ++ t ∷ []) h.gives ∙ sym (cond-false _ _ _ absent);
      left = entries_same s.tokens t' (listed s) (j.rest ∙ h.rest);
      size = record { names = refl; tokens = j.size ∙ h.size };
    })

-- ---- a token taken out

pub popped_out : (s : Shelf) (t' : Pool Bytes) (c c' : Chain) (k : ℕ) (ps fs : List ℕ) → Stands (c ∷ []) s → PoolBecomes s.tokens t' c' (chains s) ps (cut k (held s.tokens c)) fs
    → Refilled s (shelf s.names t' s.used) c' (cut k (items s.tokens c))
popped_out s t' c c' k ps fs st b =
    let ts = items s.tokens c in
    let g = given s.tokens c (chains s) st.tokens in
    let h = holds s.tokens t' c c' (chains s) ps _ fs (cut k ts) st.tokens b (ap (cut k) (sym g) ∙ sym (map-without (λ y. Some y) k ts)) in
    record {
      stands = record { names = st.names; tokens = h.divided; blanked = (st.blanked.0, h.blanked st.blanked.1); blank = (st.blank.0, h.blank ∙ st.blank.1) };
      tokens = h.gives;
      left = entries_same s.tokens t' (listed s) h.rest;
      size = record { names = refl; tokens = h.size };
    }

nth_is : (ts : List Bytes) (k : ℕ) (t : Bytes) → slice_index_or (map (λ y. Some y) ts) k None ≡ Some t → nth ts k ≡ Some t
nth_is [] k t e = cc
nth_is (x ∷ ts) zero t e = e
nth_is (x ∷ ts) (suc k) t e = nth_is ts k t e

pub given_is : (s : Shelf) (c : Chain) (k : ℕ) (t : Bytes) → Stands (c ∷ []) s → slice_index_or (held s.tokens c) k None ≡ Some t → nth (items s.tokens c) k ≡ Some t
given_is s c k t st e = nth_is (items s.tokens c) k t (ap (λ xs. slice_index_or xs k None) (given s.tokens c (chains s) st.tokens) ∙ e)
