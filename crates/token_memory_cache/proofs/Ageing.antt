-- In every history the names stand in the order of their last use, and the tokens of each in the order in which they came.
use Rattle.std.proofs.Common.{◌≡◌, ℕ, ◌<◌, ◌≤◌, true, false, nat_le, ◌⊎◌, List, [], ◌∷◌, ◌++◌, length, drop, sym, refl, ap, ◌∙◌, subst, inl, inr, ⊎_elim, arith}
use Rattle.std.specs.List.{AllByRecursion}
use Rattle.std.specs.Str.{bytes_eq}
use Rattle.std.proofs.lemmas.Bool.{and_parts, and_from, and_left, and_right, or_parts, or_left, or_right, cond-true, cond-false, cond_both, cases_Bool, leb-true, leb-false, not-true}
use Rattle.answers.specs.Successions.{Succession, Each}
use Rattle.answers.specs.Successions.Succession.{new, then}
use Rattle.token_store.specs.Store.{Bytes}
use Rattle.token_memory_cache.specs.Cache.{Entry, Cache, has, named, tokens_of, without, others_of, added, left, sound, Kept}
use Rattle.token_memory_cache.specs.Orders.{Within}
use Rattle.token_memory_cache.specs.Histories.{Event, History, Does, Step, fresh, entries_after, held, came, uses, last_use}
use Rattle.token_memory_cache.proofs.Sameness.{same_refl, same_true, same_swap}
use Rattle.token_memory_cache.proofs.Caches.{tokens_none, tokens_without, tokens_push_other, tokens_push_same, named_without_same, named-drop, added_by, has-drop, apart_of, stored_is}
use Rattle.token_memory_cache.proofs.Rising.{Rising, all_of, all_as, rising_as, rising_push, rising-drop, rising-cut}
use Rattle.token_memory_cache.proofs.Taking.{picked, picked_from, rests}
use Rattle.token_memory_cache.proofs.Taking.Rests.{none_left, some_left}
use Rattle.token_memory_cache.proofs.Turns.{Turn, leaves}
use Rattle.token_memory_cache.proofs.Turns.Turn.{refused_insert, refused_take, found_none, no_room, stores, hands}

of_tokens : (P : Bytes → Type 0) (ts : List Bytes) → ((u : Bytes) → has u ts ≡ true → P u) → AllByRecursion P ts
of_tokens P [] h = tt
of_tokens P (t ∷ ts) h = (h t (or_left _ _ (same_refl t)), of_tokens P ts (λ u d. h u (or_right _ _ d)))

-- the times of a history
pub last_bound : (n : Bytes) (xs : History) → last_use n xs ≤ length xs
last_bound n [] = omega arith
last_bound n (x ∷ xs) =
    let b = last_bound n xs in
    cond_both (uses n x.call) (length (x ∷ xs)) (last_use n xs) (λ k. k ≤ length (x ∷ xs)) (λ _. omega arith) (λ _. omega arith)

pub came_bound : (n t : Bytes) (xs : History) → came n t xs ≤ length xs
came_bound n t [] = omega arith
came_bound n t (x ∷ xs) =
    let b = came_bound n t xs in
    cond_both (held xs n t) (came n t xs) (length (x ∷ xs)) (λ k. k ≤ length (x ∷ xs)) (λ _. omega arith) (λ _. omega arith)

-- the entries without n, or without the first, stand as they stood
all-without : (P : Entry → Type 0) (n : Bytes) (es : List Entry) → AllByRecursion P es → AllByRecursion P (without n es)
all-without P n [] a = tt
all-without P n (e ∷ es) a =
    cond_both (bytes_eq n e.name) (without n es) (e ∷ without n es) (AllByRecursion P) (λ _. all-without P n es a.1) (λ _. (a.0, all-without P n es a.1))

rising-without : (f : Entry → ℕ) (n : Bytes) (es : List Entry) → Rising f es → Rising f (without n es)
rising-without f n [] r = tt
rising-without f n (e ∷ es) r =
    cond_both (bytes_eq n e.name) (without n es) (e ∷ without n es) (Rising f) (λ _. rising-without f n es r.1)
    (λ _. (all-without (λ x. f e < f x) n es r.0, rising-without f n es r.1))

pub others_by : (P : List Entry → Type 0) (names : ℕ) (n : Bytes) (es : List Entry) → (named n es ≡ true → P (without n es))
    → (named n es ≡ false → names ≤ length es → P (drop 1 es)) → (named n es ≡ false → length es < names → P es) → P (others_of names n es)
others_by P names n es known full room =
    cond_both (named n es) (without n es) _ P known
    (λ d. cond_both (nat_le names (length es)) (drop 1 es) es P (λ l. full d (leb-true _ _ l)) (λ l. room d (leb-false _ _ l)))

pub named-others : (names : ℕ) (n : Bytes) (es : List Entry) → named n (others_of names n es) ≡ false
named-others names n es = others_by (λ zs. named n zs ≡ false) names n es (λ _. named_without_same n es) (λ d _. named-drop es n d) (λ d _. d)

rising-others : (f : Entry → ℕ) (names : ℕ) (n : Bytes) (es : List Entry) → Rising f es → Rising f (others_of names n es)
rising-others f names n es r = others_by (Rising f) names n es (λ _. rising-without f n es r) (λ _ _. rising-drop f es r) (λ _ _. r)

-- the tokens of a name are none, or as they were, where the first name is dropped
tokens-drop : (es : List Entry) (m : Bytes) → sound es ≡ true → (tokens_of m (drop 1 es) ≡ tokens_of m es) ⊎ (tokens_of m (drop 1 es) ≡ [])
tokens-drop [] m s = inl refl
tokens-drop (e ∷ es) m s =
    ⊎_elim
    (λ d. inr (tokens_none m es (rw (same_true m e.name d) (not-true _ (and_parts _ _ (and_parts _ _ s).0).0))))
    (λ d. inl (sym (cond-false _ _ _ d)))
    (cases_Bool (bytes_eq m e.name))

tokens-others : (names : ℕ) (n m : Bytes) (es : List Entry) → sound es ≡ true → bytes_eq m n ≡ false
    → (tokens_of m (others_of names n es) ≡ tokens_of m es) ⊎ (tokens_of m (others_of names n es) ≡ [])
tokens-others names n m es s d =
    others_by (λ zs. (tokens_of m zs ≡ tokens_of m es) ⊎ (tokens_of m zs ≡ [])) names n es
    (λ _. inl (tokens_without n m es d)) (λ _ _. tokens-drop es m s) (λ _ _. inl refl)

-- one call more: the history xs, and the event x
module _ (x : Event) (xs : History) where
  abbrev before : Entry → ℕ
  before e = last_use e.name xs

  abbrev after : Entry → ℕ
  after e = last_use e.name (x ∷ xs)

  unnamed_as : (n : Bytes) → ((m : Bytes) → bytes_eq m n ≡ false → uses m x.call ≡ false) → (es : List Entry) → named n es ≡ false
      → AllByRecursion (λ e. before e ≡ after e) es
  unnamed_as n q [] h = tt
  unnamed_as n q (e ∷ es) h =
      let p = or_parts _ _ h in
      (sym (cond-false _ _ _ (q e.name (same_swap n e.name p.0))), unnamed_as n q es p.1)

  -- nothing is used
  idle_use : ((m : Bytes) → uses m x.call ≡ false) → (es : List Entry) → Rising before es → Rising after es
  idle_use q es = rising_as before after es (all_of (λ e. before e ≡ after e) (λ e. sym (cond-false _ _ _ (q e.name))) es)

  -- n alone is used, and stands last
  other_use : (n : Bytes) → ((m : Bytes) → bytes_eq m n ≡ false → uses m x.call ≡ false) → (es : List Entry) → named n es ≡ false → Rising before es → Rising after es
  other_use n q es h = rising_as before after es (unnamed_as n q es h)

  pushed_use : (n : Bytes) (us : List Bytes) → uses n x.call ≡ true → ((m : Bytes) → bytes_eq m n ≡ false → uses m x.call ≡ false) → (es : List Entry)
      → named n es ≡ false → Rising before es → Rising after (es ++ record { name = n; tokens = us } ∷ [])
  pushed_use n us u q es h r =
      let e : Entry = record { name = n; tokens = us } in
      let newest : after e ≡ length (x ∷ xs) = cond-true _ _ _ u in
      let less : (y : Entry) → before y ≡ after y → after y < after e = λ y a. let b = last_bound y.name xs in omega arith in
      rising_push after es e (other_use n q es h r) (all_as (λ y. before y ≡ after y) (λ y. after y < after e) less es (unnamed_as n q es h))

  -- tokens that were held keep their age
  held_came : (m : Bytes) (us : List Bytes) → ((u : Bytes) → has u us ≡ true → held xs m u ≡ true) → AllByRecursion (λ u. came m u xs ≡ came m u (x ∷ xs)) us
  held_came m us h = of_tokens (λ u. came m u xs ≡ came m u (x ∷ xs)) us (λ u d. sym (cond-true _ _ _ (h u d)))

  held_order : (m : Bytes) (us : List Bytes) → ((u : Bytes) → has u us ≡ true → held xs m u ≡ true) → Rising (λ u. came m u xs) us → Rising (λ u. came m u (x ∷ xs)) us
  held_order m us h = rising_as (λ u. came m u xs) (λ u. came m u (x ∷ xs)) us (held_came m us h)

  -- a token that was not held is the newest
  pushed_order : (n t : Bytes) (us : List Bytes) → held xs n t ≡ false → ((u : Bytes) → has u us ≡ true → held xs n u ≡ true)
      → Rising (λ u. came n u xs) us → Rising (λ u. came n u (x ∷ xs)) (us ++ t ∷ [])
  pushed_order n t us z h r =
      let newest : came n t (x ∷ xs) ≡ length (x ∷ xs) = cond-false _ _ _ z in
      let less : (u : Bytes) → came n u xs ≡ came n u (x ∷ xs) → came n u (x ∷ xs) < came n t (x ∷ xs) = λ u a. let b = came_bound n u xs in omega arith in
      rising_push (λ u. came n u (x ∷ xs)) us t (held_order n us h r)
      (all_as (λ u. came n u xs ≡ came n u (x ∷ xs)) (λ u. came n u (x ∷ xs) < came n t (x ∷ xs)) less us (held_came n us h))

  added_order : (n t : Bytes) (k : ℕ) → Rising (λ u. came n u xs) (tokens_of n (entries_after xs))
      → Rising (λ u. came n u (x ∷ xs)) (added k t (tokens_of n (entries_after xs)))
  added_order n t k r =
      let ts : List Bytes = tokens_of n (entries_after xs) in
      added_by (Rising (λ u. came n u (x ∷ xs))) k t ts (λ _. held_order n ts (λ u h. h) r)
      (λ z _. pushed_order n t (drop 1 ts) z (has-drop ts) (rising-drop (λ u. came n u xs) ts r))
      (λ z _. pushed_order n t ts z (λ u h. h) r)

-- what is kept to in every history
pub record Aged (names tokens : ℕ) (xs : History) : Type 0 where
  pub kept : Kept names tokens (entries_after xs)
  pub by_use : Rising (λ e. last_use e.name xs) (entries_after xs)
  pub by_coming : (n : Bytes) → Rising (λ t. came n t xs) (tokens_of n (entries_after xs))

module _ (p : ℕ → ℕ) (names tokens : ℕ) (x : Event) (xs : History) (a : Aged names tokens xs) where
  abbrev es : List Entry
  es = entries_after xs

  abbrev Used : List Entry → Type 0
  Used zs = Rising (λ e. last_use e.name (x ∷ xs)) zs

  abbrev Came : List Entry → Type 0
  Came zs = (m : Bytes) → Rising (λ u. came m u (x ∷ xs)) (tokens_of m zs)

  used_after : (zs : List Entry) → Turn p names tokens x.call es zs → Used zs
  used_after zs (refused_insert n t e c d) = subst Used (sym d) (idle_use x xs (λ m. ap (uses m) c ∙ and_right _ _ refl) es a.by_use)
  used_after zs (refused_take n out out' e c d) = subst Used (sym d) (idle_use x xs (λ m. ap (uses m) c ∙ and_right _ _ refl) es a.by_use)
  used_after zs (found_none n out out' c z d) = subst Used (sym d) (idle_use x xs (λ m. ap (uses m) c ∙ and_right _ _ refl) es a.by_use)
  used_after zs (no_room n t c z y d) = subst Used (sym d) tt
  used_after zs (stores n t c y z d) =
      subst Used (sym (d ∙ stored_is names tokens n t es y z))
      (pushed_use x xs n (added tokens t (tokens_of n es)) (ap (uses n) c ∙ and_from _ _ (same_refl n) refl) (λ m q. ap (uses m) c ∙ and_left _ _ q)
      (others_of names n es) (named-others names n es) (rising-others (λ e. last_use e.name xs) names n es a.by_use))
  used_after zs (hands n out out' t k c f h d) =
      let others : (m : Bytes) → bytes_eq m n ≡ false → uses m x.call ≡ false = λ m q. ap (uses m) c ∙ and_left _ _ q in
      let others_rise : Rising (λ e. last_use e.name xs) (without n es) = rising-without (λ e. last_use e.name xs) n es a.by_use in
      elim (rests p n es (tokens_of n es) t h) [
        | none_left z e ↦ subst Used (sym (d ∙ e)) (other_use x xs n others (without n es) (named_without_same n es) others_rise)
        | some_left e ↦ subst Used (sym (d ∙ e))
            (pushed_use x xs n (left p (tokens_of n es)) (ap (uses n) c ∙ and_from _ _ (same_refl n) refl) others (without n es) (named_without_same n es) others_rise)
      ]

  left_order : (fs : List Entry) (m : Bytes) → (tokens_of m fs ≡ tokens_of m es) ⊎ (tokens_of m fs ≡ []) → Rising (λ u. came m u (x ∷ xs)) (tokens_of m fs)
  left_order fs m (inl e) = subst (Rising (λ u. came m u (x ∷ xs))) (sym e) (held_order x xs m (tokens_of m es) (λ u h. h) (a.by_coming m))
  left_order fs m (inr e) = subst (Rising (λ u. came m u (x ∷ xs))) (sym e) tt

  -- the tokens us of n stand last, the others as in fs
  put_order : (n : Bytes) (us : List Bytes) (fs : List Entry) → named n fs ≡ false → Rising (λ u. came n u (x ∷ xs)) us
      → ((m : Bytes) → bytes_eq m n ≡ false → (tokens_of m fs ≡ tokens_of m es) ⊎ (tokens_of m fs ≡ [])) → Came (fs ++ record { name = n; tokens = us } ∷ [])
  put_order n us fs z r other m =
      let e : Entry = record { name = n; tokens = us } in
      let P : Bytes → Type 0 = λ m. Rising (λ u. came m u (x ∷ xs)) (tokens_of m (fs ++ e ∷ [])) in
      ⊎_elim
      (λ q. subst P (sym (same_true m n q)) (subst (Rising (λ u. came n u (x ∷ xs))) (sym (tokens_push_same fs e n z (same_refl n))) r))
      (λ q. subst (Rising (λ u. came m u (x ∷ xs))) (sym (tokens_push_other fs e m q)) (left_order fs m (other m q)))
      (cases_Bool (bytes_eq m n))

  same_order : Came es
  same_order m = left_order es m (inl refl)

  came_after : (zs : List Entry) → Turn p names tokens x.call es zs → Came zs
  came_after zs (refused_insert n t e c d) = subst Came (sym d) same_order
  came_after zs (refused_take n out out' e c d) = subst Came (sym d) same_order
  came_after zs (found_none n out out' c z d) = subst Came (sym d) same_order
  came_after zs (no_room n t c z y d) = subst Came (sym d) (λ m. tt)
  came_after zs (stores n t c y z d) =
      subst Came (sym (d ∙ stored_is names tokens n t es y z))
      (put_order n (added tokens t (tokens_of n es)) (others_of names n es) (named-others names n es) (added_order x xs n t tokens (a.by_coming n))
      (λ m q. tokens-others names n m es a.kept.0 q))
  came_after zs (hands n out out' t k c f h d) =
      let ts : List Bytes = tokens_of n es in
      let i : ℕ = p (length ts) in
      let were = picked_from ts i t (picked ts i t (apart_of es n a.kept.0) h) in
      let order : Rising (λ u. came n u (x ∷ xs)) (left p ts) = held_order x xs n (left p ts) were (rising-cut (λ u. came n u xs) i ts (a.by_coming n)) in
      elim (rests p n es (tokens_of n es) t h) [
        | none_left z e ↦ subst Came (sym (d ∙ e)) (λ m. left_order (without n es) m (⊎_elim
            (λ q. inr (tokens_none m (without n es) (rw (same_true m n q) (named_without_same n es)))) (λ q. inl (tokens_without n m es q)) (cases_Bool (bytes_eq m n))))
        | some_left e ↦ subst Came (sym (d ∙ e)) (put_order n (left p ts) (without n es) (named_without_same n es) order (λ m q. inl (tokens_without n m es q)))
      ]

  pub aged_step : Turn p names tokens x.call es x.left.entries → Kept names tokens x.left.entries → Aged names tokens (x ∷ xs)
  aged_step w k = record { kept = k; by_use = used_after x.left.entries w; by_coming = came_after x.left.entries w }

-- every call of a history, with what was kept to before it
pub record Met (p : ℕ → ℕ) (names tokens : ℕ) (x : Event) (xs : History) : Type 0 where
  pub aged : Aged names tokens xs
  pub turn : Turn p names tokens x.call (entries_after xs) x.left.entries

record Reached (p : ℕ → ℕ) (names tokens nr tr : ℕ) (xs : History) (c : Cache) : Type 0 where
  pub state : c ≡ record { names = names; tokens = tokens; name_records = nr; token_records = tr; entries = entries_after xs }
  pub aged : Aged names tokens xs
  pub met : Each (Met p names tokens) xs

module _ (p : ℕ → ℕ) (within : Within p) (names tokens nr tr : ℕ) where
  reached_step : (x : Event) (xs : History) (c c' : Cache) → Reached p names tokens nr tr xs c → Step p c x c' → Reached p names tokens nr tr (x ∷ xs) c'
  reached_step x xs c c' r s =
      let now : Cache = record { names = names; tokens = tokens; name_records = nr; token_records = tr; entries = entries_after xs } in
      let does : Does p now x.call x.left = subst (λ d. Does p d x.call x.left) r.state (subst (Does p c x.call) (sym s.1) s.0) in
      let l = leaves p within names tokens nr tr (entries_after xs) r.aged.kept x.call x.left does in
      record {
        state = sym s.1 ∙ l.state;
        aged = aged_step p names tokens x xs r.aged l.turn l.kept;
        met = (record { aged = r.aged; turn = l.turn }, r.met);
      }

  reached : (xs : History) (c : Cache) → Succession (Step p) (fresh names tokens nr tr) xs c → Reached p names tokens nr tr xs c
  reached [] c (new) = record { state = refl; aged = record { kept = (refl, refl, omega arith, refl); by_use = tt; by_coming = λ n. tt }; met = tt }
  reached (x ∷ xs) c' (then {s' = c} r w) = reached_step x xs c c' (reached xs c r) w

  pub met : (xs : History) (c : Cache) → Succession (Step p) (fresh names tokens nr tr) xs c → Each (Met p names tokens) xs
  met xs c r = (reached xs c r).met

pub each : (p : ℕ → ℕ) (names tokens : ℕ) (P : Event → History → Type 0) → ((x : Event) (xs : History) → Met p names tokens x xs → P x xs) → (xs : History) → Each (Met p names tokens) xs → Each P xs
each p names tokens P h [] m = tt
each p names tokens P h (x ∷ xs) m = (h x xs m.0, each p names tokens P h xs m.1)
