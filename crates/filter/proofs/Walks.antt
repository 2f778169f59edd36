-- Walks along the chains of an index.
use Rattle.std.proofs.Common.{◌≡◌, ℕ, zero, suc, ◌+◌, ◌-◌, ◌<◌, ◌≤◌, false, List, [], ◌∷◌, ◌++◌, length, slice_index, slice_index_or, set, replicate, sym, refl, ap, ◌∙◌, ⊎_elim, add-one, arith}
use lib.Bits.{and_le_r}
use Rattle.std.proofs.lemmas.Bool.{eq-eqb, ne_eqb, cond-true, cond-false, cases_eq, cases_lt}
use Rattle.std.proofs.lemmas.List.{get_or_append_left, get_or_push, length_push, get_or-set_same, get_or-set_other, length-set, get_or-replicate, length-replicate, get_or_read}
use Rattle.filter.specs.Lists.{member}
use Rattle.filter.specs.Indexed.{bucket, latest, Headed, Chained}
use Rattle.filter.proofs.Members.{absent}

bucket_lt : (m f : ℕ) → 0 < m → bucket m f < m
bucket_lt m f h = omega (arith, and_le_r f (m - 1))

latest_none : (m : ℕ) (xs : List ℕ) (b : ℕ) → latest m xs b 0 ≡ 0
unfolding latest
latest_none m xs b = refl

latest_here : (m : ℕ) (xs : List ℕ) (b n : ℕ) → bucket m (slice_index xs n) ≡ b → latest m xs b (n + 1) ≡ n + 1
unfolding latest
latest_here m xs b n e = rw add-one (cond-true _ _ _ (eq-eqb _ _ e))

latest-past : (m : ℕ) (xs : List ℕ) (b n : ℕ) → (bucket m (slice_index xs n) ≡ b → ⊥) → latest m xs b (n + 1) ≡ latest m xs b n
unfolding latest
latest-past m xs b n e = rw add-one (cond-false _ _ _ (ne_eqb _ _ e))

-- a link k for the places below n: it is among them, its place is in the bucket, and none after it is
record Link (m : ℕ) (xs : List ℕ) (b n k : ℕ) : Type 0 where
  pub low : k ≤ n
  pub mine : 0 < k → bucket m (slice_index xs (k - 1)) ≡ b
  pub gap : (q : ℕ) → k ≤ q → q < n → bucket m (slice_index xs q) ≡ b → ⊥

link_more : (m : ℕ) (xs : List ℕ) (b n : ℕ) → Link m xs b n (latest m xs b n) → Link m xs b (n + 1) (latest m xs b (n + 1))
link_more m xs b n l =
    ⊎_elim
    (λ (e : bucket m (slice_index xs n) ≡ b).
    rw (latest_here m xs b n e)
    (record { low = omega arith; mine = λ _. (let z : (n + 1) - 1 ≡ n = omega arith in rw z e); gap = λ q a d. absurd (omega arith) }))
    (λ (e : bucket m (slice_index xs n) ≡ b → ⊥).
    rw (latest-past m xs b n e)
    (record {
      low = omega (arith, l.low);
      mine = l.mine;
      gap = λ q a d h. ⊎_elim (λ (c : q < n). l.gap q a c h) (λ (c : n ≤ q). (let z : q ≡ n = omega arith in e (rw z at h))) (cases_lt q n);
    }))
    (cases_eq (bucket m (slice_index xs n)) b)

link : (m : ℕ) (xs : List ℕ) (b n : ℕ) → Link m xs b n (latest m xs b n)
link m xs b zero = rw latest_none (record { low = omega arith; mine = λ h. absurd (omega arith); gap = λ q a d. absurd (omega arith) })
link m xs b (suc n) = rw add-one at (link_more m xs b n (link m xs b n))

-- a walk for f has come to the link k: f stands at no place from k on
abbrev pub Walk : ℕ → List ℕ → ℕ → ℕ → Type 0
Walk m xs f k = (k ≤ length xs) × (0 < k → bucket m (slice_index xs (k - 1)) ≡ bucket m f) × ((q : ℕ) → k ≤ q → q < length xs → slice_index xs q ≡ f → ⊥)

walk_on : (m : ℕ) (xs : List ℕ) (f j k : ℕ) → j ≤ length xs → ((q : ℕ) → j ≤ q → q < length xs → slice_index xs q ≡ f → ⊥) → k ≡ latest m xs (bucket m f) j → Walk m xs f k
walk_on m xs f j k a h e =
    let l : Link m xs (bucket m f) j k = rw e (link m xs (bucket m f) j) in
    (omega (arith, l.low), l.mine, λ q b c d. ⊎_elim (λ (i : q < j). l.gap q b i (ap (bucket m) d)) (λ (i : j ≤ q). h q i c d) (cases_lt q j))

pub walk_start : (xs heads : List ℕ) (f b k : ℕ) → Headed xs heads → 0 < length heads → b ≡ bucket (length heads) f → k ≡ slice_index_or heads b k → Walk (length heads) xs f k
walk_start xs heads f b k h z e d =
    let l = bucket_lt (length heads) f z in
    walk_on (length heads) xs f (length xs) k (omega arith) (λ q a c. absurd (omega arith))
    (get_or_read heads _ k l (rw e at d) 0 ∙ h (bucket (length heads) f) l)

module _ (xs heads links : List ℕ) (f k j : ℕ) (even : length links ≡ length xs) (chained : Chained xs heads links) (walk : Walk (length heads) xs f k) (some : k ≡ 0 → ⊥) (read : j ≡ slice_index_or links (k - 1) j) where
  next : j ≡ slice_index links (k - 1)
  next = let a = walk.0 in get_or_read links (k - 1) j (omega arith) read 0

  pub walk_falls : j < k
  walk_falls =
      let a = walk.0 in
      let c : k - 1 < length xs = omega arith in
      omega (arith, next, chained (k - 1) c, (link (length heads) xs (bucket (length heads) (slice_index xs (k - 1))) (k - 1)).low)

  pub walk_more : (y : ℕ) → y ≡ slice_index_or xs (k - 1) y → (y ≡ f → ⊥) → Walk (length heads) xs f j
  walk_more y g o =
      let a = walk.0 in
      let p : 0 < k = omega arith in
      let c : k - 1 < length xs = omega arith in
      let n : slice_index xs (k - 1) ≡ f → ⊥ = λ h. o (get_or_read xs (k - 1) y c g 0 ∙ h) in
      let d : slice_index links (k - 1) ≡ latest (length heads) xs (bucket (length heads) f) (k - 1) = chained (k - 1) c ∙ ap (λ b. latest (length heads) xs b (k - 1)) (walk.1 p) in
      walk_on (length heads) xs f (k - 1) j (omega arith)
      (λ q b i h. ⊎_elim (λ (y : q ≡ k - 1). n (rw y at h)) (λ (y : q ≡ k - 1 → ⊥). walk.2 q (omega arith) i h) (cases_eq q (k - 1)))
      (next ∙ d)

pub walk-all : (m : ℕ) (xs : List ℕ) (f k : ℕ) → Walk m xs f k → k ≡ 0 → member f xs ≡ false
walk-all m xs f k w z = absent xs f (λ q h. w.2 q (omega arith) h)

-- one more fingerprint at the end
latest_push : (m : ℕ) (xs : List ℕ) (f b n : ℕ) → n ≤ length xs → latest m (xs ++ f ∷ []) b n ≡ latest m xs b n
unfolding latest
latest_push m xs f b zero h = refl
latest_push m xs f b (suc n) h = rw (get_or_append_left xs (f ∷ []) 0 n (omega arith), latest_push m xs f b n (omega arith))

latest_last : (m : ℕ) (xs : List ℕ) (f b : ℕ) → (bucket m f ≡ b → ⊥) → latest m (xs ++ f ∷ []) b (length xs + 1) ≡ latest m xs b (length xs)
latest_last m xs f b n =
    latest-past m (xs ++ f ∷ []) b (length xs) (λ e. n (ap (bucket m) (sym (get_or_push xs f 0 (length xs) refl)) ∙ e))
    ∙ latest_push m xs f b (length xs) (omega arith)

module _ (xs heads : List ℕ) (f : ℕ) (some : 0 < length heads) (headed : Headed xs heads) where
  in_range : bucket (length heads) f < length heads
  in_range = bucket_lt (length heads) f some

  headed_push : Headed (xs ++ f ∷ []) (set heads (bucket (length heads) f) (length xs + 1))
  headed_push b i =
      let j : b < length heads = rw length-set at i in
      rw (length-set heads (bucket (length heads) f) (length xs + 1), length_push xs f)
      (⊎_elim
      (λ (e : b ≡ bucket (length heads) f).
      rw e (get_or-set_same heads (bucket (length heads) f) (length xs + 1) 0 in_range
      ∙ sym (latest_here (length heads) (xs ++ f ∷ []) (bucket (length heads) f) (length xs) (ap (bucket (length heads)) (get_or_push xs f 0 (length xs) refl)))))
      (λ (e : b ≡ bucket (length heads) f → ⊥).
      get_or-set_other heads (bucket (length heads) f) b (length xs + 1) 0 e ∙ headed b j ∙ sym (latest_last (length heads) xs f b (λ d. e (sym d))))
      (cases_eq b (bucket (length heads) f)))

  chained_push : (links : List ℕ) (k : ℕ) → length links ≡ length xs → k ≡ slice_index heads (bucket (length heads) f) → Chained xs heads links
      → Chained (xs ++ f ∷ []) (set heads (bucket (length heads) f) (length xs + 1)) (links ++ k ∷ [])
  chained_push links k even e chained p i =
      rw (length-set heads (bucket (length heads) f) (length xs + 1))
      (⊎_elim
      (λ (a : p < length xs).
      let u : slice_index (xs ++ f ∷ []) p ≡ slice_index xs p = get_or_append_left xs (f ∷ []) 0 p a in
      rw u (get_or_append_left links (k ∷ []) 0 p (omega arith) ∙ chained p a ∙ sym (latest_push (length heads) xs f _ p (omega arith))))
      (λ (a : length xs ≤ p).
      let n : p ≡ length xs = omega (arith, length_push xs f) in
      rw n (rw (get_or_push xs f 0 (length xs) refl)
      (get_or_push links k 0 (length xs) even ∙ e ∙ headed (bucket (length heads) f) in_range ∙ sym (latest_push (length heads) xs f (bucket (length heads) f) (length xs) (omega arith)))))
      (cases_lt p (length xs)))

-- the same after the steps of the code
module _ (held held' heads links links' : List ℕ) (f b n k : ℕ) (push : held' ≡ held ++ f ∷ []) (at : b ≡ bucket (length heads) f) (count : n ≡ length held)
    (some : 0 < length heads) (headed : Headed held heads) where
  pub headed_after : Headed held' (set heads b (n + 1))
  headed_after = rw (push, at, count) (headed_push held heads f some headed)

  pub chained_after : length links ≡ length held → links' ≡ links ++ k ∷ [] → k ≡ slice_index_or heads b k → Chained held heads links → Chained held' (set heads b (n + 1)) links'
  chained_after even more first chained =
      let l = bucket_lt (length heads) f some in
      let k' : k ≡ slice_index heads (bucket (length heads) f) = get_or_read heads (bucket (length heads) f) k l (rw at at first) 0 in
      rw (push, at, count, more) (chained_push held heads f some headed links k even k' chained)

pub headed_none : (held heads : List ℕ) (n : ℕ) → held ≡ [] → heads ≡ replicate n 0 → Headed held heads
headed_none held heads n e d b i =
    let j : b < n = omega (arith, i, ap length d ∙ length-replicate n 0) in
    ap (λ xs. slice_index xs b) d ∙ get_or-replicate n b 0 0 j ∙ sym (ap (λ k. latest (length heads) held b k) (ap length e) ∙ latest_none (length heads) held b)

pub chained_none : (held heads links : List ℕ) → held ≡ [] → Chained held heads links
chained_none held heads links e p i = absurd (omega (arith, i, ap length e))

pub length_after : (xs ys zs ws : List ℕ) (x y : ℕ) → zs ≡ xs ++ x ∷ [] → ws ≡ ys ++ y ∷ [] → length xs ≡ length ys → length zs ≡ length ws
length_after xs ys zs ws x y e d h = ap length e ∙ length_push xs x ∙ ap (λ n. n + 1) h ∙ sym (ap length d ∙ length_push ys y)
