-- The run of a chain: the places that its links lead to, up to the end.
use Rattle.std.proofs.Common.{◌≡◌, ℕ, zero, suc, ◌+◌, ◌<◌, nat_eq, ◌≢◌, List, [], ◌∷◌, ◌++◌, length, slice_index, set, sym, refl, ap, ◌∙◌, subst, zero-add, arith, get_or-set_other, get_or-set_same}
use Rattle.std.proofs.lemmas.Bool.{cond-true, cond-false, eq-eqb, ne_eqb}
use Rattle.std.specs.List.{fold, range_with_len}
use Rattle.record_pool.specs.Chains.{walk, follow, hit, times}

-- ---- how often a place stands in a list

pub hit_same : (p : ℕ) → hit p p ≡ 1
unfolding hit
hit_same p = cond-true (nat_eq p p) 1 0 (eq-eqb p p refl)

pub hit_other : (p x : ℕ) → (x ≡ p → ⊥) → hit p x ≡ 0
unfolding hit
hit_other p x ne = cond-false (nat_eq x p) 1 0 (ne_eqb x p ne)

pub missed : (p x : ℕ) → hit p x ≡ 0 → x ≢ p
missed p x z e = let o : hit p x ≡ 1 = subst (λ (y : ℕ). hit p y ≡ 1) (sym e) (hit_same p) in omega arith

pub times-++ : (p : ℕ) (xs ys : List ℕ) → times p (xs ++ ys) ≡ times p xs + times p ys
times-++ p [] ys = sym (zero-add (times p ys))
times-++ p (x ∷ xs) ys = let e : times p (xs ++ ys) ≡ times p xs + times p ys = times-++ p xs ys in omega arith

-- ---- links followed one by one

pub follow_more : (k : ℕ) (nx : List ℕ) (s : ℕ) → follow (suc k) nx s ≡ slice_index nx (follow k nx s)
follow_more zero nx s = refl
follow_more (suc k) nx s = follow_more k nx (slice_index nx s)

pub length-walk : (k : ℕ) (nx : List ℕ) (s : ℕ) → length (walk k nx s) ≡ k
length-walk zero nx s = refl
length-walk (suc k) nx s = ap suc (length-walk k nx (slice_index nx s))

pub get_d_walk : (c k : ℕ) (nx : List ℕ) (s : ℕ) → k < c → slice_index (walk c nx s) k ≡ follow k nx s
get_d_walk zero k nx s h = absurd (omega arith)
get_d_walk (suc c) zero nx s h = refl
get_d_walk (suc c) (suc k) nx s h = get_d_walk c k nx (slice_index nx s) (omega arith)

-- ---- runs

-- from s the links lead along the places xs, and then to 0
abbrev pub Runs : List ℕ → ℕ → List ℕ → Type 0
Runs nx s [] = s ≡ 0
Runs nx s (x ∷ xs) = (s ≡ x) × Runs nx (slice_index nx x) xs

pub runs_of : (k : ℕ) (nx : List ℕ) (s : ℕ) → follow k nx s ≡ 0 → Runs nx s (walk k nx s)
runs_of zero nx s e = e
runs_of (suc k) nx s e = (refl, runs_of k nx (slice_index nx s) e)

pub walk_of : (nx : List ℕ) (s : ℕ) (xs : List ℕ) (k : ℕ) → Runs nx s xs → length xs ≡ k → walk k nx s ≡ xs
walk_of nx s [] zero r e = refl
walk_of nx s [] (suc k) r e = absurd (omega arith)
walk_of nx s (x ∷ xs) zero r e = absurd (omega arith)
walk_of nx s (x ∷ xs) (suc k) r e =
    ap (λ (y : ℕ). y ∷ walk k nx (slice_index nx y)) r.0 ∙ ap (λ (ys : List ℕ). x ∷ ys) (walk_of nx (slice_index nx x) xs k r.1 (omega arith))

pub end_of : (nx : List ℕ) (s : ℕ) (xs : List ℕ) (k : ℕ) → Runs nx s xs → length xs ≡ k → follow k nx s ≡ 0
end_of nx s [] zero r e = r
end_of nx s [] (suc k) r e = absurd (omega arith)
end_of nx s (x ∷ xs) zero r e = absurd (omega arith)
end_of nx s (x ∷ xs) (suc k) r e =
    ap (λ (y : ℕ). follow k nx (slice_index nx y)) r.0 ∙ end_of nx (slice_index nx x) xs k r.1 (omega arith)

-- a place that a run does not meet can lead anywhere
pub run_frame : (nx : List ℕ) (s : ℕ) (xs : List ℕ) (j v : ℕ) → times j xs ≡ 0 → Runs nx s xs → Runs (set nx j v) s xs
run_frame nx s [] j v z r = r
run_frame nx s (x ∷ xs) j v z r =
    let ne : x ≢ j = missed j x (omega arith) in
    let z' : times j xs ≡ 0 = omega arith in
    (r.0, subst (λ (t : ℕ). Runs (set nx j v) t xs) (sym (get_or-set_other nx j x v 0 ne)) (run_frame nx (slice_index nx x) xs j v z' r.1))

-- a run up to the place l, then what l leads to instead
pub splice : (nx : List ℕ) (s : ℕ) (xs : List ℕ) (l : ℕ) (ys : List ℕ) (t : ℕ) (zs : List ℕ)
    → l < length nx → times l xs ≡ 0 → times l zs ≡ 0 → Runs nx s (xs ++ l ∷ ys) → Runs nx t zs → Runs (set nx l t) s (xs ++ l ∷ zs)
splice nx s [] l ys t zs lt zx zz r q =
    (r.0, subst (λ (u : ℕ). Runs (set nx l t) u zs) (sym (get_or-set_same nx l t 0 lt)) (run_frame nx t zs l t zz q))
splice nx s (x ∷ xs) l ys t zs lt zx zz r q =
    let ne : x ≢ l = missed l x (omega arith) in
    let z' : times l xs ≡ 0 = omega arith in
    (r.0, subst (λ (u : ℕ). Runs (set nx l t) u (xs ++ l ∷ zs)) (sym (get_or-set_other nx l x t 0 ne)) (splice nx (slice_index nx x) xs l ys t zs lt z' zz r.1 q))

-- the run after a place
pub run_after : (nx : List ℕ) (s : ℕ) (xs : List ℕ) (l : ℕ) (ys : List ℕ) → Runs nx s (xs ++ l ∷ ys) → Runs nx (slice_index nx l) ys
run_after nx s [] l ys r = r.1
run_after nx s (x ∷ xs) l ys r = run_after nx (slice_index nx x) xs l ys r.1

-- the same as a fold
pub follow_fold : (nx : List ℕ) (n a s : ℕ) → fold (λ p i. slice_index nx p) s (range_with_len a n) ≡ follow n nx s
follow_fold nx zero a s = refl
follow_fold nx (suc n) a s = follow_fold nx n (a + 1) (slice_index nx s)
