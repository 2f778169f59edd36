-- Chains that share out the places: what follows from it, and how it lasts.
use Rattle.std.proofs.Common.{◌≡◌, ℕ, zero, suc, ◌+◌, ◌-◌, ◌<◌, ◌≤◌, ◌⊎◌, List, [], ◌∷◌, ◌++◌, map, length, slice_index, take, drop, set, sym, refl, ap, ◌∙◌, subst, inl, inr, ⊎_elim, arith, length-append, length-set, get_or-set_other, get_or-set_same}
use Rattle.std.specs.List.{flat_map}
use Rattle.std.proofs.lemmas.Bool.{cases_eq}
use Rattle.std.proofs.lemmas.List.{append_assoc, take-append-drop, drop_more, take_more, drop_all, append-nil}
use Rattle.record_pool.specs.declared.chain.Chain.{Chain}
use Rattle.record_pool.specs.Chains.{walk, follow, along, empty_chain, hit, times, Ended, Shared, without, Detached, Joined, down}
use Rattle.record_pool.proofs.Runs.{hit_same, hit_other, times-++, follow_more, length-walk, get_d_walk, Runs, runs_of, walk_of, end_of, run_frame, splice, run_after}

-- ---- lists

pub split_at : (k : ℕ) (xs : List ℕ) → k < length xs → xs ≡ take k xs ++ slice_index xs k ∷ drop (k + 1) xs
split_at k xs h = sym (take-append-drop k xs) ∙ ap (λ (ys : List ℕ). take k xs ++ ys) (drop_more xs k 0 h)

pub times-without : (p k : ℕ) (xs : List ℕ) → k < length xs → times p (without k xs) + hit p (slice_index xs k) ≡ times p xs
times-without p k xs h =
    let e : times p xs ≡ times p (take k xs ++ slice_index xs k ∷ drop (k + 1) xs) = ap (times p) (split_at k xs h) in
    let a : times p (take k xs ++ slice_index xs k ∷ drop (k + 1) xs) ≡ times p (take k xs) + times p (slice_index xs k ∷ drop (k + 1) xs) = times-++ p (take k xs) (slice_index xs k ∷ drop (k + 1) xs) in
    let b : times p (take k xs ++ drop (k + 1) xs) ≡ times p (take k xs) + times p (drop (k + 1) xs) = times-++ p (take k xs) (drop (k + 1) xs) in
    omega arith

pub length_without : (k : ℕ) (xs : List ℕ) → k < length xs → length (without k xs) + 1 ≡ length xs
length_without k xs h =
    let e : length xs ≡ length (take k xs ++ slice_index xs k ∷ drop (k + 1) xs) = ap length (split_at k xs h) in
    let a : length (take k xs ++ slice_index xs k ∷ drop (k + 1) xs) ≡ length (take k xs) + length (slice_index xs k ∷ drop (k + 1) xs) = length-append (take k xs) (slice_index xs k ∷ drop (k + 1) xs) in
    let b : length (take k xs ++ drop (k + 1) xs) ≡ length (take k xs) + length (drop (k + 1) xs) = length-append (take k xs) (drop (k + 1) xs) in
    omega arith

pub met_at : (xs : List ℕ) (k : ℕ) → k < length xs → 1 ≤ times (slice_index xs k) xs
met_at [] k h = absurd (omega arith)
met_at (x ∷ xs) zero h = let e : hit x x ≡ 1 = hit_same x in omega arith
met_at (x ∷ xs) (suc k) h = let e : 1 ≤ times (slice_index xs k) xs = met_at xs k (omega arith) in omega arith

pub joined_map : (nx : List ℕ) (cs : List Chain) → flat_map (along nx) cs ≡ flat_map (λ (xs : List ℕ). xs) (map (along nx) cs)
joined_map nx [] = refl
joined_map nx (c ∷ cs) = ap (λ (xs : List ℕ). along nx c ++ xs) (joined_map nx cs)

pub joined_kept : (nx nx' : List ℕ) (cs : List Chain) → map (along nx') cs ≡ map (along nx) cs → flat_map (along nx') cs ≡ flat_map (along nx) cs
joined_kept nx nx' cs e = joined_map nx' cs ∙ ap (flat_map (λ (xs : List ℕ). xs)) e ∙ sym (joined_map nx cs)

-- ---- what sharing says

pub none_or : (m : ℕ) → (m ≡ 0) ⊎ (0 < m)
none_or zero = inl refl
none_or (suc m) = inr (omega arith)

pub at_most : (n : ℕ) (nx : List ℕ) (cs : List Chain) → Shared n nx cs → (p : ℕ) → times p (flat_map (along nx) cs) ≤ 1
at_most n nx cs sh p = ⊎_elim (λ z. omega arith) (λ h. let b : (0 < p) × (p ≤ n) = sh.only p h in let o : times p (flat_map (along nx) cs) ≡ 1 = sh.once p b.0 b.1 in omega arith) (none_or (times p (flat_map (along nx) cs)))

-- a place of the first chain is a record's, and stands in no other chain
pub in_range : (n : ℕ) (nx : List ℕ) (c : Chain) (cs : List Chain) (p : ℕ) → Shared n nx (c ∷ cs) → 1 ≤ times p (along nx c) → (0 < p) × (p ≤ n)
in_range n nx c cs p sh h =
    let e : times p (along nx c ++ flat_map (along nx) cs) ≡ times p (along nx c) + times p (flat_map (along nx) cs) = times-++ p (along nx c) (flat_map (along nx) cs) in
    sh.only p (omega arith)

pub apart : (n : ℕ) (nx : List ℕ) (c : Chain) (cs : List Chain) (p : ℕ) → Shared n nx (c ∷ cs) → 1 ≤ times p (along nx c) → times p (flat_map (along nx) cs) ≡ 0
apart n nx c cs p sh h =
    let e : times p (along nx c ++ flat_map (along nx) cs) ≡ times p (along nx c) + times p (flat_map (along nx) cs) = times-++ p (along nx c) (flat_map (along nx) cs) in
    let o : times p (along nx c ++ flat_map (along nx) cs) ≤ 1 = at_most n nx (c ∷ cs) sh p in omega arith

pub first_once : (n : ℕ) (nx : List ℕ) (c : Chain) (cs : List Chain) → Shared n nx (c ∷ cs) → (p : ℕ) → times p (along nx c) ≤ 1
first_once n nx c cs sh p =
    let e : times p (along nx c ++ flat_map (along nx) cs) ≡ times p (along nx c) + times p (flat_map (along nx) cs) = times-++ p (along nx c) (flat_map (along nx) cs) in
    let o : times p (along nx c ++ flat_map (along nx) cs) ≤ 1 = at_most n nx (c ∷ cs) sh p in omega arith

pub run_first : (n : ℕ) (nx : List ℕ) (c : Chain) (cs : List Chain) → Shared n nx (c ∷ cs) → Runs nx c.first (along nx c)
run_first n nx c cs sh = runs_of c.count nx c.first sh.ended.0

-- ---- how it lasts

-- the same places in another order, and each chain ended
pub reshared : (n : ℕ) (nx nx' : List ℕ) (cs cs' : List Chain) → Shared n nx cs
    → ((p : ℕ) → times p (flat_map (along nx') cs') ≡ times p (flat_map (along nx) cs)) → length (flat_map (along nx') cs') ≡ length (flat_map (along nx) cs)
    → Ended nx' cs' → Shared n nx' cs'
reshared n nx nx' cs cs' sh t l e = record {
  once = λ p lo hi. t p ∙ sh.once p lo hi;
  only = λ p h. sh.only p (subst (λ (m : ℕ). 0 < m) (t p) h);
  full = l ∙ sh.full;
  ended = e;
}

-- a place that no chain meets can lead anywhere
pub frame : (nx : List ℕ) (cs : List Chain) (j v : ℕ) → times j (flat_map (along nx) cs) ≡ 0 → Ended nx cs
    → (map (along (set nx j v)) cs ≡ map (along nx) cs) × Ended (set nx j v) cs
frame nx [] j v z e = (refl, tt)
frame nx (c ∷ cs) j v z e =
    let s : times j (along nx c ++ flat_map (along nx) cs) ≡ times j (along nx c) + times j (flat_map (along nx) cs) = times-++ j (along nx c) (flat_map (along nx) cs) in
    let z0 : times j (along nx c) ≡ 0 = omega arith in
    let z1 : times j (flat_map (along nx) cs) ≡ 0 = omega arith in
    let r : Runs (set nx j v) c.first (along nx c) = run_frame nx c.first (along nx c) j v z0 (runs_of c.count nx c.first e.0) in
    let l : length (along nx c) ≡ c.count = length-walk c.count nx c.first in
    let t : (map (along (set nx j v)) cs ≡ map (along nx) cs) × Ended (set nx j v) cs = frame nx cs j v z1 e.1 in (
      ap (λ (xs : List ℕ). xs ∷ map (along (set nx j v)) cs) (walk_of (set nx j v) c.first (along nx c) c.count r l) ∙ ap (λ (xss : List (List ℕ)). along nx c ∷ xss) t.0,
      (end_of (set nx j v) c.first (along nx c) c.count r l, t.1),
    )

-- a chain parted in two, over its runs
parted : (n : ℕ) (nx nx' : List ℕ) (c : Chain) (k : ℕ) (rest one : Chain) (others : List Chain) → k < c.count → Shared n nx (c ∷ others)
    → Runs nx' rest.first (without k (along nx c)) → rest.count + 1 ≡ c.count
    → Runs nx' one.first (slice_index (along nx c) k ∷ []) → one.count ≡ 1
    → map (along nx') others ≡ map (along nx) others → Ended nx' others
    → Detached n nx nx' c k rest one others
parted n nx nx' c k rest one others lt sh rr rc ro oc fr en =
    let xs : List ℕ = along nx c in
    let l : length (along nx c) ≡ c.count = length-walk c.count nx c.first in
    let lt' : k < length (along nx c) = omega arith in
    let lw : length (without k (along nx c)) + 1 ≡ length (along nx c) = length_without k (along nx c) lt' in
    let le : length (without k (along nx c)) ≡ rest.count = omega arith in
    let er : along nx' rest ≡ without k (along nx c) = walk_of nx' rest.first (without k (along nx c)) rest.count rr le in
    let eo : along nx' one ≡ slice_index (along nx c) k ∷ [] = walk_of nx' one.first (slice_index (along nx c) k ∷ []) one.count ro (sym oc) in
    let ej : flat_map (along nx') others ≡ flat_map (along nx) others = joined_kept nx nx' others fr in
    let all : flat_map (along nx') (rest ∷ one ∷ others) ≡ without k (along nx c) ++ (slice_index (along nx c) k ∷ flat_map (along nx) others)
    = ap (λ (ys : List ℕ). ys ++ (along nx' one ++ flat_map (along nx') others)) er
    ∙ ap (λ (ys : List ℕ). without k (along nx c) ++ (ys ++ flat_map (along nx') others)) eo
    ∙ ap (λ (ys : List ℕ). without k (along nx c) ++ (slice_index (along nx c) k ∷ ys)) ej in
    record {
      shared = reshared n nx nx' (c ∷ others) (rest ∷ one ∷ others) sh
          (λ p. let a : times p (without k (along nx c) ++ (slice_index (along nx c) k ∷ flat_map (along nx) others)) ≡ times p (without k (along nx c)) + (hit p (slice_index (along nx c) k) + times p (flat_map (along nx) others)) = times-++ p (without k (along nx c)) (slice_index (along nx c) k ∷ flat_map (along nx) others) in
          let b : times p (along nx c ++ flat_map (along nx) others) ≡ times p (along nx c) + times p (flat_map (along nx) others) = times-++ p (along nx c) (flat_map (along nx) others) in
          let w : times p (without k (along nx c)) + hit p (slice_index (along nx c) k) ≡ times p (along nx c) = times-without p k (along nx c) lt' in
          ap (times p) all ∙ omega arith)
          (let a : length (without k (along nx c) ++ (slice_index (along nx c) k ∷ flat_map (along nx) others)) ≡ length (without k (along nx c)) + length (slice_index (along nx c) k ∷ flat_map (along nx) others) = length-append (without k (along nx c)) (slice_index (along nx c) k ∷ flat_map (along nx) others) in
          let b : length (along nx c ++ flat_map (along nx) others) ≡ length (along nx c) + length (flat_map (along nx) others) = length-append (along nx c) (flat_map (along nx) others) in
          ap length all ∙ omega arith)
          (end_of nx' rest.first (without k (along nx c)) rest.count rr le, (end_of nx' one.first (slice_index (along nx c) k ∷ []) one.count ro (sym oc), en));
      rests = er;
      ones = eo;
      kept = fr;
    }

-- the first place detached: it leads to the end, and the chain begins with what it led to
pub detached_first : (n : ℕ) (nx nx' : List ℕ) (c : Chain) (k t : ℕ) (others : List Chain) → length nx ≡ n + 1 → k ≡ 0 → k < c.count → Shared n nx (c ∷ others)
    → t ≡ slice_index nx c.first → (0 < c.first → nx' ≡ set nx c.first 0)
    → Detached n nx nx' c k (record { first = t; count = c.count - 1 }) (record { first = c.first; count = 1 }) others
detached_first n nx nx' c (suc k) t others long z lt sh et en = absurd (omega arith)
detached_first n nx nx' c zero t others long z lt sh et en =
    let s : ℕ = c.first in
    let l : length (along nx c) ≡ c.count = length-walk c.count nx c.first in
    let lt' : 0 < length (along nx c) = omega arith in
    let f : slice_index (along nx c) 0 ≡ c.first = get_d_walk c.count 0 nx c.first lt in
    let sp : along nx c ≡ c.first ∷ drop 1 (along nx c) = split_at 0 (along nx c) lt' ∙ ap (λ (x : ℕ). x ∷ drop 1 (along nx c)) f in
    let m : 1 ≤ times c.first (along nx c) = subst (λ (x : ℕ). 1 ≤ times x (along nx c)) f (met_at (along nx c) 0 lt') in
    let b : (0 < c.first) × (c.first ≤ n) = in_range n nx c others c.first sh m in
    let e : nx' ≡ set nx c.first 0 = en b.0 in
    let o : times c.first (c.first ∷ drop 1 (along nx c)) ≤ 1 = subst (λ (xs : List ℕ). times c.first xs ≤ 1) sp (first_once n nx c others sh c.first) in
    let h : hit c.first c.first ≡ 1 = hit_same c.first in
    let z1 : times c.first (drop 1 (along nx c)) ≡ 0 = omega arith in
    let r : Runs nx c.first (c.first ∷ drop 1 (along nx c)) = subst (λ (xs : List ℕ). Runs nx c.first xs) sp (run_first n nx c others sh) in
    let fr : (map (along (set nx c.first 0)) others ≡ map (along nx) others) × Ended (set nx c.first 0) others = frame nx others c.first 0 (apart n nx c others c.first sh m) sh.ended.1 in
    subst (λ (mx : List ℕ). Detached n nx mx c 0 (record { first = t; count = c.count - 1 }) (record { first = c.first; count = 1 }) others) (sym e)
    (parted n nx (set nx c.first 0) c 0 (record { first = t; count = c.count - 1 }) (record { first = c.first; count = 1 }) others lt sh
    (subst (λ (u : ℕ). Runs (set nx c.first 0) u (drop 1 (along nx c))) (sym et) (run_frame nx (slice_index nx c.first) (drop 1 (along nx c)) c.first 0 z1 r.1))
    (omega arith)
    (sym f, subst (λ (x : ℕ). slice_index (set nx c.first 0) x ≡ 0) (sym f) (get_or-set_same nx c.first 0 0 (omega arith)))
    refl fr.0 fr.1)

-- two neighbours in a run, of which the second is taken out
unlinked : (nx : List ℕ) (s : ℕ) (pre : List ℕ) (b i : ℕ) (post : List ℕ) → ((p : ℕ) → times p (pre ++ b ∷ i ∷ post) ≤ 1) → b < length nx → i < length nx
    → Runs nx s (pre ++ b ∷ i ∷ post)
    → Runs (set (set nx b (slice_index nx i)) i 0) s (pre ++ b ∷ post) × Runs (set (set nx b (slice_index nx i)) i 0) i (i ∷ [])
unlinked nx s pre b i post most bl il r =
    let tb : times b (pre ++ b ∷ i ∷ post) ≡ times b pre + times b (b ∷ i ∷ post) = times-++ b pre (b ∷ i ∷ post) in
    let ti : times i (pre ++ b ∷ i ∷ post) ≡ times i pre + times i (b ∷ i ∷ post) = times-++ i pre (b ∷ i ∷ post) in
    let tr : times i (pre ++ b ∷ post) ≡ times i pre + times i (b ∷ post) = times-++ i pre (b ∷ post) in
    let mb : times b (pre ++ b ∷ i ∷ post) ≤ 1 = most b in
    let mi : times i (pre ++ b ∷ i ∷ post) ≤ 1 = most i in
    let hb : hit b b ≡ 1 = hit_same b in
    let hi : hit i i ≡ 1 = hit_same i in
    let z1 : times b pre ≡ 0 = omega arith in
    let z2 : times b post ≡ 0 = omega arith in
    let z3 : times i (pre ++ b ∷ post) ≡ 0 = omega arith in
    let after : Runs nx (slice_index nx i) post = (run_after nx s pre b (i ∷ post) r).1 in
    let cut : Runs (set nx b (slice_index nx i)) s (pre ++ b ∷ post) = splice nx s pre b (i ∷ post) (slice_index nx i) post bl z1 z2 r after in
    let il' : i < length (set nx b (slice_index nx i)) = subst (λ (m : ℕ). i < m) (sym (length-set nx b (slice_index nx i))) il in (
      run_frame (set nx b (slice_index nx i)) s (pre ++ b ∷ post) i 0 z3 cut,
      (refl, get_or-set_same (set nx b (slice_index nx i)) i 0 0 il'),
    )

-- a later place detached: the place before it leads to what it led to, and it leads to the end
pub detached_later : (n : ℕ) (nx nx1 nx2 : List ℕ) (c : Chain) (k b i a : ℕ) (others : List Chain) → length nx ≡ n + 1 → 0 < k → k < c.count → Shared n nx (c ∷ others)
    → b ≡ follow (k - 1) nx c.first → i ≡ slice_index nx b → a ≡ slice_index nx i → (0 < b → nx1 ≡ set nx b a) → (0 < i → nx2 ≡ set nx1 i 0)
    → Detached n nx nx2 c k (record { first = c.first; count = c.count - 1 }) (record { first = i; count = 1 }) others
detached_later n nx nx1 nx2 c zero b i a others long pos lt sh eb ei ea e1 e2 = absurd (omega arith)
detached_later n nx nx1 nx2 c (suc q) b i a others long pos lt sh eb ei ea e1 e2 =
    let l : length (along nx c) ≡ c.count = length-walk c.count nx c.first in
    let lq : q < length (along nx c) = omega arith in
    let lk : suc q < length (along nx c) = omega arith in
    let q1 : suc q - 1 ≡ q = omega arith in
    let s1 : q + 1 ≡ suc q = omega arith in
    let fb : b ≡ slice_index (along nx c) q
    = eb ∙ ap (λ (m : ℕ). follow m nx c.first) q1 ∙ sym (get_d_walk c.count q nx c.first (omega arith)) in
    let fi : i ≡ slice_index (along nx c) (suc q)
    = ei ∙ ap (λ (m : ℕ). slice_index nx m) (eb ∙ ap (λ (m : ℕ). follow m nx c.first) q1) ∙ sym (follow_more q nx c.first) ∙ sym (get_d_walk c.count (suc q) nx c.first lt) in
    let mb : 1 ≤ times b (along nx c) = subst (λ (x : ℕ). 1 ≤ times x (along nx c)) (sym fb) (met_at (along nx c) q lq) in
    let mi : 1 ≤ times i (along nx c) = subst (λ (x : ℕ). 1 ≤ times x (along nx c)) (sym fi) (met_at (along nx c) (suc q) lk) in
    let rb : (0 < b) × (b ≤ n) = in_range n nx c others b sh mb in
    let ri : (0 < i) × (i ≤ n) = in_range n nx c others i sh mi in
    let e : nx2 ≡ set (set nx b (slice_index nx i)) i 0 = e2 ri.0 ∙ ap (λ (m : List ℕ). set m i 0) (e1 rb.0 ∙ ap (λ (v : ℕ). set nx b v) ea) in
    let tk : take (suc q) (along nx c) ≡ take q (along nx c) ++ b ∷ []
    = ap (λ (m : ℕ). take m (along nx c)) (sym s1) ∙ take_more (along nx c) q 0 lq ∙ ap (λ (x : ℕ). take q (along nx c) ++ x ∷ []) (sym fb) in
    let sp : along nx c ≡ take q (along nx c) ++ b ∷ i ∷ drop (suc q + 1) (along nx c)
    = split_at (suc q) (along nx c) lk
    ∙ ap (λ (x : ℕ). take (suc q) (along nx c) ++ x ∷ drop (suc q + 1) (along nx c)) (sym fi)
    ∙ ap (λ (xs : List ℕ). xs ++ i ∷ drop (suc q + 1) (along nx c)) tk
    ∙ append_assoc (take q (along nx c)) (b ∷ []) (i ∷ drop (suc q + 1) (along nx c)) in
    let sw : without (suc q) (along nx c) ≡ take q (along nx c) ++ b ∷ drop (suc q + 1) (along nx c)
    = ap (λ (xs : List ℕ). xs ++ drop (suc q + 1) (along nx c)) tk ∙ append_assoc (take q (along nx c)) (b ∷ []) (drop (suc q + 1) (along nx c)) in
    let most : (p : ℕ) → times p (take q (along nx c) ++ b ∷ i ∷ drop (suc q + 1) (along nx c)) ≤ 1
    = λ p. subst (λ (xs : List ℕ). times p xs ≤ 1) sp (first_once n nx c others sh p) in
    let u : Runs (set (set nx b (slice_index nx i)) i 0) c.first (take q (along nx c) ++ b ∷ drop (suc q + 1) (along nx c)) × Runs (set (set nx b (slice_index nx i)) i 0) i (i ∷ [])
    = unlinked nx c.first (take q (along nx c)) b i (drop (suc q + 1) (along nx c)) most (omega arith) (omega arith)
    (subst (λ (xs : List ℕ). Runs nx c.first xs) sp (run_first n nx c others sh)) in
    let f1 : (map (along (set nx b (slice_index nx i))) others ≡ map (along nx) others) × Ended (set nx b (slice_index nx i)) others
    = frame nx others b (slice_index nx i) (apart n nx c others b sh mb) sh.ended.1 in
    let zi : times i (flat_map (along (set nx b (slice_index nx i))) others) ≡ 0
    = ap (times i) (joined_kept nx (set nx b (slice_index nx i)) others f1.0) ∙ apart n nx c others i sh mi in
    let f2 : (map (along (set (set nx b (slice_index nx i)) i 0)) others ≡ map (along (set nx b (slice_index nx i))) others) × Ended (set (set nx b (slice_index nx i)) i 0) others
    = frame (set nx b (slice_index nx i)) others i 0 zi f1.1 in
    subst (λ (mx : List ℕ). Detached n nx mx c (suc q) (record { first = c.first; count = c.count - 1 }) (record { first = i; count = 1 }) others) (sym e)
    (parted n nx (set (set nx b (slice_index nx i)) i 0) c (suc q) (record { first = c.first; count = c.count - 1 }) (record { first = i; count = 1 }) others lt sh
    (subst (λ (xs : List ℕ). Runs (set (set nx b (slice_index nx i)) i 0) c.first xs) (sym sw) u.0)
    (omega arith)
    (subst (λ (x : ℕ). Runs (set (set nx b (slice_index nx i)) i 0) i (x ∷ [])) fi u.1)
    refl (f2.0 ∙ f1.0) f2.1)

-- ---- two chains joined

joined_two : (nx : List ℕ) (a b : Chain) (cs : List Chain) (p : ℕ)
    → times p (flat_map (along nx) (a ∷ b ∷ cs)) ≡ times p (along nx a ++ along nx b) + times p (flat_map (along nx) cs)
joined_two nx a b cs p =
    ap (times p) (sym (append_assoc (along nx a) (along nx b) (flat_map (along nx) cs))) ∙ times-++ p (along nx a ++ along nx b) (flat_map (along nx) cs)

length_two : (nx : List ℕ) (a b : Chain) (cs : List Chain)
    → length (flat_map (along nx) (a ∷ b ∷ cs)) ≡ length (along nx a ++ along nx b) + length (flat_map (along nx) cs)
length_two nx a b cs =
    ap length (sym (append_assoc (along nx a) (along nx b) (flat_map (along nx) cs))) ∙ length-append (along nx a ++ along nx b) (flat_map (along nx) cs)

bound : (n : ℕ) (nx nx' : List ℕ) (a b both : Chain) (others : List Chain) → Shared n nx (a ∷ b ∷ others)
    → Runs nx' both.first (along nx a ++ along nx b) → both.count ≡ a.count + b.count
    → map (along nx') others ≡ map (along nx) others → Ended nx' others → Joined n nx nx' a b both others
bound n nx nx' a b both others sh r ec fr en =
    let l : length (along nx a ++ along nx b) ≡ both.count
    = length-append (along nx a) (along nx b) ∙ ap (λ (m : ℕ). m + length (along nx b)) (length-walk a.count nx a.first) ∙ ap (λ (m : ℕ). a.count + m) (length-walk b.count nx b.first) ∙ sym ec in
    let eb : along nx' both ≡ along nx a ++ along nx b = walk_of nx' both.first (along nx a ++ along nx b) both.count r l in
    let all : flat_map (along nx') (both ∷ others) ≡ (along nx a ++ along nx b) ++ flat_map (along nx) others
    = ap (λ (ys : List ℕ). ys ++ flat_map (along nx') others) eb ∙ ap (λ (ys : List ℕ). (along nx a ++ along nx b) ++ ys) (joined_kept nx nx' others fr) in
    record {
      shared = reshared n nx nx' (a ∷ b ∷ others) (both ∷ others) sh
          (λ p. ap (times p) all ∙ times-++ p (along nx a ++ along nx b) (flat_map (along nx) others) ∙ sym (joined_two nx a b others p))
          (ap length all ∙ length-append (along nx a ++ along nx b) (flat_map (along nx) others) ∙ sym (length_two nx a b others))
          (end_of nx' both.first (along nx a ++ along nx b) both.count r l, en);
      boths = eb;
      kept = fr;
    }

pub joined_some : (n : ℕ) (nx nx' : List ℕ) (a b : Chain) (l m : ℕ) (others : List Chain) → length nx ≡ n + 1 → 0 < a.count → Shared n nx (a ∷ b ∷ others)
    → l ≡ follow (a.count - 1) nx a.first → (0 < l → nx' ≡ set nx l b.first) → m ≡ a.count + b.count
    → Joined n nx nx' a b (record { first = a.first; count = m }) others
joined_some n nx nx' a b l m others long pos sh el en em =
    let q : ℕ = a.count - 1 in
    let la : length (along nx a) ≡ a.count = length-walk a.count nx a.first in
    let lq : a.count - 1 < length (along nx a) = omega arith in
    let fl : l ≡ slice_index (along nx a) (a.count - 1) = el ∙ sym (get_d_walk a.count (a.count - 1) nx a.first (omega arith)) in
    let ml : 1 ≤ times l (along nx a) = subst (λ (x : ℕ). 1 ≤ times x (along nx a)) (sym fl) (met_at (along nx a) (a.count - 1) lq) in
    let rl : (0 < l) × (l ≤ n) = in_range n nx a (b ∷ others) l sh ml in
    let sp : along nx a ≡ take (a.count - 1) (along nx a) ++ l ∷ []
    = split_at (a.count - 1) (along nx a) lq
    ∙ ap (λ (xs : List ℕ). take (a.count - 1) (along nx a) ++ slice_index (along nx a) (a.count - 1) ∷ xs) (drop_all (a.count - 1 + 1) (along nx a) (omega arith))
    ∙ ap (λ (x : ℕ). take (a.count - 1) (along nx a) ++ x ∷ []) (sym fl) in
    let sj : along nx a ++ along nx b ≡ take (a.count - 1) (along nx a) ++ l ∷ along nx b
    = ap (λ (xs : List ℕ). xs ++ along nx b) sp ∙ append_assoc (take (a.count - 1) (along nx a)) (l ∷ []) (along nx b) in
    let zo : times l (along nx b ++ flat_map (along nx) others) ≡ 0 = apart n nx a (b ∷ others) l sh ml in
    let tj : times l (along nx b ++ flat_map (along nx) others) ≡ times l (along nx b) + times l (flat_map (along nx) others) = times-++ l (along nx b) (flat_map (along nx) others) in
    let zb : times l (along nx b) ≡ 0 = omega arith in
    let zr : times l (flat_map (along nx) others) ≡ 0 = omega arith in
    let o : times l (take (a.count - 1) (along nx a) ++ l ∷ []) ≤ 1 = subst (λ (xs : List ℕ). times l xs ≤ 1) sp (first_once n nx a (b ∷ others) sh l) in
    let t : times l (take (a.count - 1) (along nx a) ++ l ∷ []) ≡ times l (take (a.count - 1) (along nx a)) + times l (l ∷ []) = times-++ l (take (a.count - 1) (along nx a)) (l ∷ []) in
    let h : hit l l ≡ 1 = hit_same l in
    let zx : times l (take (a.count - 1) (along nx a)) ≡ 0 = omega arith in
    let ra : Runs nx a.first (take (a.count - 1) (along nx a) ++ l ∷ []) = subst (λ (xs : List ℕ). Runs nx a.first xs) sp (run_first n nx a (b ∷ others) sh) in
    let rj : Runs (set nx l b.first) a.first (take (a.count - 1) (along nx a) ++ l ∷ along nx b)
    = splice nx a.first (take (a.count - 1) (along nx a)) l [] b.first (along nx b) (omega arith) zx zb ra (runs_of b.count nx b.first sh.ended.1.0) in
    let fr : (map (along (set nx l b.first)) others ≡ map (along nx) others) × Ended (set nx l b.first) others = frame nx others l b.first zr sh.ended.1.1 in
    subst (λ (mx : List ℕ). Joined n nx mx a b (record { first = a.first; count = m }) others) (sym (en rl.0))
    (bound n nx (set nx l b.first) a b (record { first = a.first; count = m }) others sh
    (subst (λ (xs : List ℕ). Runs (set nx l b.first) a.first xs) (sym sj) rj) em fr.0 fr.1)

-- two chains together are no longer than there are places
pub two_counts : (n : ℕ) (nx : List ℕ) (a b : Chain) (others : List Chain) → Shared n nx (a ∷ b ∷ others) → a.count + b.count ≤ n
two_counts n nx a b others sh =
    let f : length (flat_map (along nx) (a ∷ b ∷ others)) ≡ n = sh.full in
    let t : length (flat_map (along nx) (a ∷ b ∷ others)) ≡ length (along nx a ++ along nx b) + length (flat_map (along nx) others) = length_two nx a b others in
    let s : length (along nx a ++ along nx b) ≡ length (along nx a) + length (along nx b) = length-append (along nx a) (along nx b) in
    let la : length (along nx a) ≡ a.count = length-walk a.count nx a.first in
    let lb : length (along nx b) ≡ b.count = length-walk b.count nx b.first in
    omega arith

-- ---- all places in one chain, from the last down

runs_down : (n : ℕ) (nx : List ℕ) → ((k : ℕ) → k ≤ n → slice_index nx k ≡ k - 1) → Runs nx n (down n)
runs_down zero nx h = refl
runs_down (suc n) nx h =
    let e : slice_index nx (suc n) ≡ n = h (suc n) (omega arith) ∙ (omega arith) in
    (refl, subst (λ (s : ℕ). Runs nx s (down n)) (sym e) (runs_down n nx (λ k l. h k (omega arith))))

length-down : (n : ℕ) → length (down n) ≡ n
length-down zero = refl
length-down (suc n) = ap suc (length-down n)

past_down : (p n : ℕ) → n < p → times p (down n) ≡ 0
past_down p zero h = refl
past_down p (suc n) h =
    let ne : suc n ≡ p → ⊥ = λ e. omega arith in
    let a : hit p (suc n) ≡ 0 = hit_other p (suc n) ne in let b : times p (down n) ≡ 0 = past_down p n (omega arith) in omega arith

once_down : (p n : ℕ) → 0 < p → p ≤ n → times p (down n) ≡ 1
once_down p zero lo hi = absurd (omega arith)
once_down p (suc n) lo hi = ⊎_elim here (λ ne. there ne (once_down p n lo (omega arith))) (cases_eq (suc n) p)
  where
    here : suc n ≡ p → times p (down (suc n)) ≡ 1
    here e = let a : hit p (suc n) ≡ 1 = subst (λ (x : ℕ). hit p x ≡ 1) (sym e) (hit_same p) in let b : times p (down n) ≡ 0 = past_down p n (omega arith) in omega arith

    there : (suc n ≡ p → ⊥) → times p (down n) ≡ 1 → times p (down (suc n)) ≡ 1
    there ne b = let a : hit p (suc n) ≡ 0 = hit_other p (suc n) ne in omega arith

only_down : (p n : ℕ) → 0 < times p (down n) → (0 < p) × (p ≤ n)
only_down p zero h = absurd (omega arith)
only_down p (suc n) h = ⊎_elim here (there (only_down p n)) (cases_eq (suc n) p)
  where
    here : suc n ≡ p → (0 < p) × (p ≤ suc n)
    here e = (omega arith, omega arith)

    there : (0 < times p (down n) → (0 < p) × (p ≤ n)) → (suc n ≡ p → ⊥) → (0 < p) × (p ≤ suc n)
    there less ne = let a : hit p (suc n) ≡ 0 = hit_other p (suc n) ne in let r : (0 < p) × (p ≤ n) = less (omega arith) in (r.0, omega arith)

pub shared_down : (n : ℕ) (nx : List ℕ) → ((k : ℕ) → k ≤ n → slice_index nx k ≡ k - 1) → Shared n nx (record { first = n; count = n } ∷ [])
shared_down n nx h =
    let r : Runs nx n (down n) = runs_down n nx h in
    let e : walk n nx n ++ [] ≡ down n = append-nil (walk n nx n) ∙ walk_of nx n (down n) n r (length-down n) in
    record {
      once = λ p lo hi. ap (times p) e ∙ once_down p n lo hi;
      only = λ p m. only_down p n (subst (λ (xs : List ℕ). 0 < times p xs) e m);
      full = ap length e ∙ length-down n;
      ended = (end_of nx n (down n) n r (length-down n), tt);
    }

pub along_down : (n : ℕ) (nx : List ℕ) → ((k : ℕ) → k ≤ n → slice_index nx k ≡ k - 1) → walk n nx n ≡ down n
along_down n nx h = walk_of nx n (down n) n (runs_down n nx h) (length-down n)

pub down_more : (nx nx' : List ℕ) (i : ℕ) → i + 1 < length nx → nx' ≡ set nx (i + 1) i → ((k : ℕ) → k ≤ i → slice_index nx k ≡ k - 1) → (k : ℕ) → k ≤ i + 1 → slice_index nx' k ≡ k - 1
down_more nx nx' i long e h k le = ap (λ (mx : List ℕ). slice_index mx k) e ∙ ⊎_elim here there (cases_eq k (i + 1))
  where
    here : k ≡ i + 1 → slice_index (set nx (i + 1) i) k ≡ k - 1
    here q = ap (λ (j : ℕ). slice_index (set nx (i + 1) i) j) q ∙ get_or-set_same nx (i + 1) i 0 long ∙ (omega arith)

    there : (k ≡ i + 1 → ⊥) → slice_index (set nx (i + 1) i) k ≡ k - 1
    there ne = get_or-set_other nx (i + 1) k i 0 ne ∙ h k (omega arith)

-- ---- the order of the chains

bring_sum : (m : List ℕ → ℕ) → ((xs ys : List ℕ) → m (xs ++ ys) ≡ m xs + m ys) → (nx : List ℕ) (cs : List Chain) (c : Chain) (ds : List Chain)
    → m (flat_map (along nx) (c ∷ (cs ++ ds))) ≡ m (flat_map (along nx) (cs ++ c ∷ ds))
bring_sum m add nx [] c ds = refl
bring_sum m add nx (b ∷ cs) c ds =
    let i : m (along nx c ++ flat_map (along nx) (cs ++ ds)) ≡ m (flat_map (along nx) (cs ++ c ∷ ds)) = bring_sum m add nx cs c ds in
    let e1 : m (along nx c ++ flat_map (along nx) (cs ++ ds)) ≡ m (along nx c) + m (flat_map (along nx) (cs ++ ds)) = add (along nx c) (flat_map (along nx) (cs ++ ds)) in
    let e2 : m (along nx c ++ (along nx b ++ flat_map (along nx) (cs ++ ds))) ≡ m (along nx c) + m (along nx b ++ flat_map (along nx) (cs ++ ds)) = add (along nx c) (along nx b ++ flat_map (along nx) (cs ++ ds)) in
    let e3 : m (along nx b ++ flat_map (along nx) (cs ++ ds)) ≡ m (along nx b) + m (flat_map (along nx) (cs ++ ds)) = add (along nx b) (flat_map (along nx) (cs ++ ds)) in
    let e4 : m (along nx b ++ flat_map (along nx) (cs ++ c ∷ ds)) ≡ m (along nx b) + m (flat_map (along nx) (cs ++ c ∷ ds)) = add (along nx b) (flat_map (along nx) (cs ++ c ∷ ds)) in
    omega arith

bring_ended : (nx : List ℕ) (cs : List Chain) (c : Chain) (ds : List Chain) → Ended nx (cs ++ c ∷ ds) → Ended nx (c ∷ (cs ++ ds))
bring_ended nx [] c ds e = e
bring_ended nx (b ∷ cs) c ds e = let t : Ended nx (c ∷ (cs ++ ds)) = bring_ended nx cs c ds e.1 in (t.0, (e.0, t.1))

send_ended : (nx : List ℕ) (cs : List Chain) (c : Chain) (ds : List Chain) → Ended nx (c ∷ (cs ++ ds)) → Ended nx (cs ++ c ∷ ds)
send_ended nx [] c ds e = e
send_ended nx (b ∷ cs) c ds e = (e.1.0, send_ended nx cs c ds (e.0, e.1.1))

-- a chain brought to the front, and sent back
pub bring : (n : ℕ) (nx : List ℕ) (cs : List Chain) (c : Chain) (ds : List Chain) → Shared n nx (cs ++ c ∷ ds) → Shared n nx (c ∷ (cs ++ ds))
bring n nx cs c ds sh =
    reshared n nx nx (cs ++ c ∷ ds) (c ∷ (cs ++ ds)) sh (λ p. bring_sum (times p) (times-++ p) nx cs c ds) (bring_sum length length-append nx cs c ds)
    (bring_ended nx cs c ds sh.ended)

pub send : (n : ℕ) (nx : List ℕ) (cs : List Chain) (c : Chain) (ds : List Chain) → Shared n nx (c ∷ (cs ++ ds)) → Shared n nx (cs ++ c ∷ ds)
send n nx cs c ds sh =
    reshared n nx nx (c ∷ (cs ++ ds)) (cs ++ c ∷ ds) sh (λ p. sym (bring_sum (times p) (times-++ p) nx cs c ds)) (sym (bring_sum length length-append nx cs c ds))
    (send_ended nx cs c ds sh.ended)

-- an empty chain added
pub with_empty : (n : ℕ) (nx : List ℕ) (a : Chain) (cs : List Chain) → Shared n nx (a ∷ cs) → Shared n nx (a ∷ empty_chain ∷ cs)
with_empty n nx a cs sh =
    reshared n nx nx (a ∷ cs) (a ∷ empty_chain ∷ cs) sh (λ p. refl) refl (sh.ended.0, (refl, sh.ended.1))

pub carried : (n n' : ℕ) (nx nx' : List ℕ) (cs : List Chain) → n' ≡ n → nx' ≡ nx → Shared n nx cs → Shared n' nx' cs
carried n n' nx nx' cs en ex sh =
    subst (λ (m : ℕ). Shared m nx' cs) (sym en) (subst (λ (mx : List ℕ). Shared n mx cs) (sym ex) sh)
