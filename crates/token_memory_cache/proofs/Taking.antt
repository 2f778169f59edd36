-- What a take does to the tokens of a name. All that depends on which of them it hands out stands here.
use Rattle.std.proofs.Common.{◌≡◌, ℕ, zero, suc, ◌+◌, ◌<◌, ◌≤◌, true, false, ◌||◌, List, [], ◌∷◌, ◌++◌, length, Some, None, sym, refl, ap, ◌∙◌, subst, ⊎_elim, ◌≢◌, arith}
use Rattle.std.specs.List.{AllByRecursion}
use Rattle.std.specs.Str.{bytes_eq}
use Rattle.std.proofs.lemmas.Bool.{false≢true, and_parts, and_from, or_cases, or_from, or_left, or_right, not-true, not_from_false, leb-true, cases_Bool}
use Rattle.record_pool.specs.Chains.{without as cut}
use Rattle.record_pool.specs.Pools.{nth}
use Rattle.token_store.specs.Store.{Bytes}
use Rattle.token_memory_cache.specs.Orders.{Within, first, last}
use Rattle.token_memory_cache.specs.Cache.{Entry, has, apart, shorts, without, given, left, leave, rest}
use Rattle.token_memory_cache.proofs.Sameness.{same_refl, same_true, same_ne}
use Rattle.token_memory_cache.proofs.Rising.{Rising, cut-later}

pub nth_there : (ts : List Bytes) (i : ℕ) → i < length ts → (x : Bytes) × (nth ts i ≡ Some x)
nth_there [] i h = absurd (omega arith)
nth_there (t ∷ ts) zero h = (t, refl)
nth_there (t ∷ ts) (suc i) h = nth_there ts i (omega arith)

pub nth_short : (ts : List Bytes) (i : ℕ) (x : Bytes) → nth ts i ≡ Some x → shorts ts ≡ true → length x ≤ 512
nth_short [] i x e s = cc
nth_short (t ∷ ts) zero x e s =
    let d : t ≡ x = cc in
    let l : length t ≤ 512 = leb-true _ _ (and_parts _ _ s).0 in
    rw d at l
nth_short (t ∷ ts) (suc i) x e s = nth_short ts i x e (and_parts _ _ s).1

nth_has : (ts : List Bytes) (i : ℕ) (x : Bytes) → nth ts i ≡ Some x → has x ts ≡ true
nth_has [] i x e = cc
nth_has (t ∷ ts) zero x e = let d : t ≡ x = cc in subst (λ z. has z (t ∷ ts) ≡ true) d (or_left _ _ (same_refl t))
nth_has (t ∷ ts) (suc i) x e = or_right _ _ (nth_has ts i x e)

-- of tokens that are apart, x stands at position i, and the others are left
pub record Picked (ts : List Bytes) (i : ℕ) (x : Bytes) : Type 0 where
  pub there : has x ts ≡ true
  pub gone : has x (cut i ts) ≡ false
  pub others : (u : Bytes) → u ≢ x → has u (cut i ts) ≡ has u ts
  pub still : apart (cut i ts) ≡ true
  pub short : shorts ts ≡ true → shorts (cut i ts) ≡ true
  pub fewer : length (cut i ts) + 1 ≡ length ts

pub picked : (ts : List Bytes) (i : ℕ) (x : Bytes) → apart ts ≡ true → nth ts i ≡ Some x → Picked ts i x
picked [] i x a e = cc
picked (t ∷ ts) zero x a e =
    let d : t ≡ x = cc in
    let p = and_parts _ _ a in
    subst (Picked (t ∷ ts) zero) d (record {
      there = or_left _ _ (same_refl t);
      gone = not-true _ p.0;
      others = λ u n. sym (ap (λ b. b || has u ts) (same_ne u t n));
      still = p.1;
      short = λ s. (and_parts _ _ s).1;
      fewer = omega arith;
    })
picked (t ∷ ts) (suc i) x a e =
    let p = and_parts _ _ a in
    let k = picked ts i x p.1 e in
    let lone : has t ts ≡ false = not-true _ p.0 in
    let other : x ≢ t = λ d. false≢true (sym lone ∙ ap (λ z. has z ts) (sym d) ∙ k.there) in
    let c = cut-later t i ts in
    record {
      there = or_right _ _ k.there;
      gone = ap (has x) c ∙ or_from _ _ (same_ne x t other) k.gone;
      others = λ u n. ap (has u) c ∙ ap (λ b. bytes_eq u t || b) (k.others u n);
      still = ap apart c ∙ and_from _ _ (not_from_false _ (k.others t (λ d. other (sym d)) ∙ lone)) k.still;
      short = λ s. let q = and_parts _ _ s in ap shorts c ∙ and_from _ _ q.0 (k.short q.1);
      fewer = omega (arith, ap length c, k.fewer);
    }

-- what is left was there
pub picked_from : (ts : List Bytes) (i : ℕ) (x : Bytes) → Picked ts i x → (u : Bytes) → has u (cut i ts) ≡ true → has u ts ≡ true
picked_from ts i x k u h =
    ⊎_elim
    (λ d. subst (λ z. has z ts ≡ true) (sym (same_true u x d)) k.there)
    (λ d. sym (k.others u (λ e. false≢true (sym d ∙ (ap (bytes_eq u) (sym e) ∙ same_refl u)))) ∙ h)
    (cases_Bool (bytes_eq u x))

-- a fact of all tokens, at one
pub at_token : (P : Bytes → Type 0) (ts : List Bytes) → AllByRecursion P ts → (u : Bytes) → has u ts ≡ true → P u
at_token P [] a u h = absurd (false≢true h)
at_token P (t ∷ ts) a u h = ⊎_elim (λ d. subst P (sym (same_true u t d)) a.0) (λ d. at_token P ts a.1 u d) (or_cases _ _ h)

-- of tokens along which a number rises, the first has the least
pub first_least : (f : Bytes → ℕ) (ts : List Bytes) (t : Bytes) → Rising f ts → given first ts ≡ Some t → (u : Bytes) → has u ts ≡ true → u ≢ t → f t < f u
first_least f [] t r e u h n = cc
first_least f (v ∷ vs) t r e u h n =
    let d : v ≡ t = cc in
    ⊎_elim (λ q. absurd (n (same_true u v q ∙ d))) (λ q. subst (λ z. f z < f u) d (at_token (λ z. f v < f z) vs r.0 u q)) (or_cases _ _ h)

-- and the last the greatest
most_at : (f : Bytes → ℕ) (ts : List Bytes) (i : ℕ) (t : Bytes) → Rising f ts → i + 1 ≡ length ts → nth ts i ≡ Some t → (u : Bytes) → has u ts ≡ true → u ≢ t → f u < f t
most_at f [] i t r l e u h n = cc
most_at f (v ∷ []) zero t r l e u h n =
    let d : v ≡ t = cc in
    ⊎_elim (λ q. absurd (n (same_true u v q ∙ d))) (λ q. absurd (false≢true q)) (or_cases _ _ h)
most_at f (v ∷ (w ∷ ws)) zero t r l e u h n = absurd (omega arith)
most_at f (v ∷ vs) (suc i) t r l e u h n =
    ⊎_elim
    (λ q. subst (λ z. f z < f t) (sym (same_true u v q)) (at_token (λ z. f v < f z) vs r.0 t (nth_has vs i t e)))
    (λ q. most_at f vs i t r.1 (omega arith) e u q n)
    (or_cases _ _ h)

pub last_most : (f : Bytes → ℕ) (ts : List Bytes) (t : Bytes) → Rising f ts → given last ts ≡ Some t → (u : Bytes) → has u ts ≡ true → u ≢ t → f u < f t
last_most f [] t r e u h n = cc
last_most f (v ∷ vs) t r e u h n = most_at f (v ∷ vs) (last (length (v ∷ vs))) t r (omega arith) e u h n

-- the entries after a take that hands one out
pub rest_is : (p : ℕ → ℕ) (n : Bytes) (es : List Entry) (ts : List Bytes) (x : Bytes) → given p ts ≡ Some x → rest p n es ts ≡ leave n es (left p ts)
rest_is p n es [] x e = cc
rest_is p n es (t ∷ ts) x e = refl

-- and the entries then: the name goes with its last token, or else stands last
pub data Rests (n : Bytes) (us : List Bytes) (es zs : List Entry) : Type 0 where
  none_left : us ≡ [] → zs ≡ without n es → Rests n us es zs
  some_left : zs ≡ without n es ++ record { name = n; tokens = us } ∷ [] → Rests n us es zs

pub leaves_them : (n : Bytes) (es : List Entry) (us : List Bytes) → Rests n us es (leave n es us)
leaves_them n es [] = none_left refl refl
leaves_them n es (u ∷ us) = some_left refl

pub rests : (p : ℕ → ℕ) (n : Bytes) (es : List Entry) (ts : List Bytes) (t : Bytes) → given p ts ≡ Some t → Rests n (left p ts) es (rest p n es ts)
rests p n es ts t e = subst (Rests n (left p ts) es) (sym (rest_is p n es ts t e)) (leaves_them n es (left p ts))

-- none is handed out where none is there, and nothing is then taken off
pub none_there : (p : ℕ → ℕ) (n : Bytes) (es : List Entry) (ts : List Bytes) → Within p → given p ts ≡ None → (ts ≡ []) × (rest p n es ts ≡ es)
none_there p n es [] w e = (refl, refl)
none_there p n es (t ∷ ts) w e =
    let i = p (length (t ∷ ts)) in
    let f = nth_there (t ∷ ts) i (w (length (t ∷ ts)) (omega arith)) in
    let z : ◌≡◌ {A = ℕ} 0 1 = cc in
    absurd (omega arith)
