-- The cache on lists does what a store does.
use Rattle.std.proofs.Common.{◌≡◌, ℕ, ◌<◌, ◌≤◌, Bool, true, false, cond, ◌&&◌, ◌||◌, if◌then◌else◌, nat_eq, nat_le, ◌⊎◌, List, [], ◌∷◌, ◌++◌, length, drop, Some, None, Ok, Option, sym, refl, ap, ap₂, ◌∙◌, subst, inl, inr, ⊎_elim, arith}
use Rattle.std.specs.List.{list_all}
use Rattle.std.specs.Str.{bytes_eq}
use Rattle.std.proofs.lemmas.Bool.{false≢true, and_parts, and_from, or_parts, or_cases, or_from, or_right, not-true, not_from_false, cond-true, cond-false, cond_both, cases_Bool, leb-true, leb-false, le-leb, lt-leb, eqb-false, ne_eqb}
use Rattle.std.proofs.lemmas.List.{length_push, length-drop}
use Rattle.answers.specs.Buffers.{fronted}
use Rattle.record_pool.specs.Chains.{without as cut}
use Rattle.token_store.specs.Store.Stores.{inserts}
use Rattle.token_store.specs.Store.Takes.{none, some as handing}
use Rattle.token_store.specs.Store.{Bytes, Holds, Alike, Inserted, Handed, Stores, Takes}
use Rattle.token_memory_cache.specs.Cache.{Entry, has, named, tokens_of, without, holding, added, others_of, stored, given, leave, rest, handed_out, taken, apart, some, sound, fits, shorts, short, Kept}
use Rattle.token_memory_cache.specs.Orders.{Within}
use Rattle.token_memory_cache.proofs.Sameness.{same_refl, same_true, same_swap}
use Rattle.token_memory_cache.proofs.Taking.{nth_there, nth_short, Picked, picked}

or_nil : (b : Bool) → (b || false) ≡ b
or_nil true = refl
or_nil false = refl

or_assoc : (a b c : Bool) → (a || (b || c)) ≡ ((a || b) || c)
or_assoc true b c = refl
or_assoc false b c = refl

-- a test that each element passes, where one is pushed, dropped or left out
module _ {X : Type 0} (test : X → Bool) where
  every_push : (xs : List X) (x : X) → list_all test xs ≡ true → test x ≡ true → list_all test (xs ++ x ∷ []) ≡ true
  every_push [] x h t = and_from _ _ t refl
  every_push (y ∷ xs) x h t = let p = and_parts _ _ h in and_from _ _ p.0 (every_push xs x p.1 t)

  every_drop : (xs : List X) → list_all test xs ≡ true → list_all test (drop 1 xs) ≡ true
  every_drop [] h = h
  every_drop (x ∷ xs) h = (and_parts _ _ h).1

every-without : (test : Entry → Bool) (n : Bytes) (es : List Entry) → list_all test es ≡ true → list_all test (without n es) ≡ true
every-without test n [] h = h
every-without test n (e ∷ es) h =
    let p = and_parts _ _ h in
    cond_both (bytes_eq n e.name) (without n es) (e ∷ without n es) (λ xs. list_all test xs ≡ true) (λ _. every-without test n es p.1)
    (λ _. and_from _ _ p.0 (every-without test n es p.1))

-- what holds of no tokens and of those of each entry holds of those of a name
tokens_by : (P : List Bytes → Type 0) (test : Entry → Bool) → P [] → ((e : Entry) → test e ≡ true → P e.tokens)
    → (n : Bytes) (es : List Entry) → list_all test es ≡ true → P (tokens_of n es)
tokens_by P test empty each n [] h = empty
tokens_by P test empty each n (e ∷ es) h =
    let p = and_parts _ _ h in
    cond_both (bytes_eq n e.name) e.tokens (tokens_of n es) P (λ _. each e p.0) (λ _. tokens_by P test empty each n es p.1)

-- the tokens of one name
pub has_push : (ts : List Bytes) (t u : Bytes) → has u (ts ++ t ∷ []) ≡ (has u ts || bytes_eq u t)
has_push [] t u = or_nil _
has_push (x ∷ ts) t u = ap (λ b. bytes_eq u x || b) (has_push ts t u) ∙ or_assoc (bytes_eq u x) (has u ts) (bytes_eq u t)

pub has-drop : (ts : List Bytes) (u : Bytes) → has u (drop 1 ts) ≡ true → has u ts ≡ true
has-drop [] u h = h
has-drop (x ∷ ts) u h = or_right _ _ h

not_has_drop : (ts : List Bytes) (u : Bytes) → has u ts ≡ false → has u (drop 1 ts) ≡ false
not_has_drop [] u h = h
not_has_drop (x ∷ ts) u h = (or_parts _ _ h).1

apart-drop : (ts : List Bytes) → apart ts ≡ true → apart (drop 1 ts) ≡ true
apart-drop [] h = h
apart-drop (x ∷ ts) h = (and_parts _ _ h).1

apart_push : (ts : List Bytes) (t : Bytes) → apart ts ≡ true → has t ts ≡ false → apart (ts ++ t ∷ []) ≡ true
apart_push [] t a h = refl
apart_push (x ∷ ts) t a h =
    let p = and_parts _ _ a in
    let q = or_parts _ _ h in
    and_from _ _ (not_from_false _ (has_push ts t x ∙ or_from _ _ (not-true _ p.0) (same_swap t x q.0))) (apart_push ts t p.1 q.1)

some_push : (ts : List Bytes) (t : Bytes) → some (ts ++ t ∷ []) ≡ true
some_push [] t = refl
some_push (x ∷ ts) t = refl

some-has : (ts : List Bytes) (t : Bytes) → has t ts ≡ true → some ts ≡ true
some-has [] t h = h
some-has (x ∷ ts) t h = refl

-- a token added: the tokens stay, or it is pushed to them or to all but the oldest
pub added_by : (P : List Bytes → Type 0) (k : ℕ) (t : Bytes) (ts : List Bytes) → (has t ts ≡ true → P ts)
    → (has t ts ≡ false → k ≤ length ts → P (drop 1 ts ++ t ∷ [])) → (has t ts ≡ false → length ts < k → P (ts ++ t ∷ [])) → P (added k t ts)
added_by P k t ts held full room =
    cond_both (has t ts) ts _ P held
    (λ h. cond_both (nat_le k (length ts)) (drop 1 ts) ts (λ xs. P (xs ++ t ∷ [])) (λ l. full h (leb-true _ _ l)) (λ l. room h (leb-false _ _ l)))

has-added : (k : ℕ) (t : Bytes) (ts : List Bytes) (u : Bytes) → has u (added k t ts) ≡ true → (has u ts ≡ true) ⊎ (u ≡ t)
has-added k t ts u =
    added_by (λ xs. has u xs ≡ true → (has u ts ≡ true) ⊎ (u ≡ t)) k t ts (λ _ h. inl h)
    (λ _ _ h. ⊎_elim (λ a. inl (has-drop ts u a)) (λ a. inr (same_true u t a)) (or_cases _ _ (sym (has_push (drop 1 ts) t u) ∙ h)))
    (λ _ _ h. ⊎_elim inl (λ a. inr (same_true u t a)) (or_cases _ _ (sym (has_push ts t u) ∙ h)))

apart-added : (k : ℕ) (t : Bytes) (ts : List Bytes) → apart ts ≡ true → apart (added k t ts) ≡ true
apart-added k t ts a =
    added_by (λ xs. apart xs ≡ true) k t ts (λ _. a) (λ h _. apart_push (drop 1 ts) t (apart-drop ts a) (not_has_drop ts t h)) (λ h _. apart_push ts t a h)

some-added : (k : ℕ) (t : Bytes) (ts : List Bytes) → some (added k t ts) ≡ true
some-added k t ts = added_by (λ xs. some xs ≡ true) k t ts (some-has ts t) (λ _ _. some_push (drop 1 ts) t) (λ _ _. some_push ts t)

length-added : (k : ℕ) (t : Bytes) (ts : List Bytes) → 0 < k → length ts ≤ k → length (added k t ts) ≤ k
length-added k t ts z h =
    added_by (λ xs. length xs ≤ k) k t ts (λ _. h)
    (λ _ _. omega (arith, length_push (drop 1 ts) t, length-drop 1 ts)) (λ _ l. omega (arith, length_push ts t, l))

shorts-added : (k : ℕ) (t : Bytes) (ts : List Bytes) → shorts ts ≡ true → length t ≤ 512 → shorts (added k t ts) ≡ true
shorts-added k t ts h l =
    let ok : nat_le (length t) 512 ≡ true = le-leb _ _ l in
    let test : Bytes → Bool = λ x. nat_le (length x) 512 in
    added_by (λ xs. shorts xs ≡ true) k t ts (λ _. h) (λ _ _. every_push test (drop 1 ts) t (every_drop test ts h) ok) (λ _ _. every_push test ts t h ok)

-- names
named-without : (n m : Bytes) (es : List Entry) → named m es ≡ false → named m (without n es) ≡ false
named-without n m [] h = h
named-without n m (e ∷ es) h =
    let p = or_parts _ _ h in
    cond_both (bytes_eq n e.name) (without n es) (e ∷ without n es) (λ xs. named m xs ≡ false) (λ _. named-without n m es p.1)
    (λ _. or_from _ _ p.0 (named-without n m es p.1))

pub named_without_same : (n : Bytes) (es : List Entry) → named n (without n es) ≡ false
named_without_same n [] = refl
named_without_same n (e ∷ es) =
    cond_both (bytes_eq n e.name) (without n es) (e ∷ without n es) (λ xs. named n xs ≡ false) (λ _. named_without_same n es) (λ d. or_from _ _ d (named_without_same n es))

pub named-drop : (es : List Entry) (m : Bytes) → named m es ≡ false → named m (drop 1 es) ≡ false
named-drop [] m h = h
named-drop (e ∷ es) m h = (or_parts _ _ h).1

named_push : (es : List Entry) (e : Entry) (m : Bytes) → named m (es ++ e ∷ []) ≡ (named m es || bytes_eq m e.name)
named_push [] e m = or_nil _
named_push (x ∷ es) e m = ap (λ b. bytes_eq m x.name || b) (named_push es e m) ∙ or_assoc (bytes_eq m x.name) (named m es) (bytes_eq m e.name)

pub tokens_none : (m : Bytes) (es : List Entry) → named m es ≡ false → tokens_of m es ≡ []
tokens_none m [] h = refl
tokens_none m (e ∷ es) h = let p = or_parts _ _ h in cond-false _ _ _ p.0 ∙ tokens_none m es p.1

named_some : (n t : Bytes) (ts : List Bytes) (es : List Entry) → tokens_of n es ≡ t ∷ ts → named n es ≡ true
named_some n t ts es e = ⊎_elim (λ d. d) (λ d. let z = tokens_none n es d in let y : ◌≡◌ {A = ℕ} 0 1 = cc in absurd (omega arith)) (cases_Bool (named n es))

pub tokens_without : (n m : Bytes) (es : List Entry) → bytes_eq m n ≡ false → tokens_of m (without n es) ≡ tokens_of m es
tokens_without n m [] d = refl
tokens_without n m (e ∷ es) d =
    cond_both (bytes_eq n e.name) (without n es) (e ∷ without n es) (λ xs. tokens_of m xs ≡ tokens_of m (e ∷ es))
    (λ s. tokens_without n m es d ∙ sym (cond-false _ _ _ (rw (same_true n e.name s) at d)))
    (λ s. ap (λ x. cond (bytes_eq m e.name) e.tokens x) (tokens_without n m es d))

pub tokens_push_other : (es : List Entry) (e : Entry) (m : Bytes) → bytes_eq m e.name ≡ false → tokens_of m (es ++ e ∷ []) ≡ tokens_of m es
tokens_push_other [] e m d = cond-false _ _ _ d
tokens_push_other (x ∷ es) e m d = ap (λ y. cond (bytes_eq m x.name) x.tokens y) (tokens_push_other es e m d)

pub tokens_push_same : (es : List Entry) (e : Entry) (m : Bytes) → named m es ≡ false → bytes_eq m e.name ≡ true → tokens_of m (es ++ e ∷ []) ≡ e.tokens
tokens_push_same [] e m h d = cond-true _ _ _ d
tokens_push_same (x ∷ es) e m h d = let p = or_parts _ _ h in cond-false _ _ _ p.0 ∙ tokens_push_same es e m p.1 d

tokens_drop : (es : List Entry) (m u : Bytes) → sound es ≡ true → has u (tokens_of m (drop 1 es)) ≡ true → has u (tokens_of m es) ≡ true
tokens_drop [] m u s h = h
tokens_drop (e ∷ es) m u s h =
    cond_both (bytes_eq m e.name) e.tokens (tokens_of m es) (λ xs. has u xs ≡ true)
    (λ d.
    let z : named m es ≡ false = rw (same_true m e.name d) (not-true _ (and_parts _ _ (and_parts _ _ s).0).0) in
    absurd (false≢true (sym (ap (has u) (tokens_none m es z)) ∙ h)))
    (λ _. h)

-- sound entries
pub apart_of : (es : List Entry) (n : Bytes) → sound es ≡ true → apart (tokens_of n es) ≡ true
apart_of [] n s = refl
apart_of (e ∷ es) n s =
    let p = and_parts _ _ s in
    cond_both (bytes_eq n e.name) e.tokens (tokens_of n es) (λ xs. apart xs ≡ true) (λ _. (and_parts _ _ (and_parts _ _ p.0).1).0) (λ _. apart_of es n p.1)

sound-without : (n : Bytes) (es : List Entry) → sound es ≡ true → sound (without n es) ≡ true
sound-without n [] s = refl
sound-without n (e ∷ es) s =
    let p = and_parts _ _ s in
    let q = and_parts _ _ p.0 in
    cond_both (bytes_eq n e.name) (without n es) (e ∷ without n es) (λ xs. sound xs ≡ true) (λ _. sound-without n es p.1)
    (λ _. and_from _ _ (and_from _ _ (not_from_false _ (named-without n e.name es (not-true _ q.0))) q.1) (sound-without n es p.1))

sound_push : (es : List Entry) (e : Entry) → sound es ≡ true → named e.name es ≡ false → apart e.tokens ≡ true → some e.tokens ≡ true → sound (es ++ e ∷ []) ≡ true
sound_push [] e s z a b = and_from _ _ (and_from _ _ a b) refl
sound_push (x ∷ es) e s z a b =
    let p = and_parts _ _ s in
    let q = and_parts _ _ p.0 in
    let y = or_parts _ _ z in
    and_from _ _ (and_from _ _ (not_from_false _ (named_push es e x.name ∙ or_from _ _ (not-true _ q.0) (same_swap e.name x.name y.0))) q.1)
    (sound_push es e p.1 y.1 a b)

sound-drop : (es : List Entry) → sound es ≡ true → sound (drop 1 es) ≡ true
sound-drop [] s = s
sound-drop (e ∷ es) s = (and_parts _ _ s).1

-- lengths
length_without : (n : Bytes) (es : List Entry) → length (without n es) ≤ length es
length_without n [] = omega arith
length_without n (e ∷ es) =
    let h = length_without n es in
    cond_both (bytes_eq n e.name) (without n es) (e ∷ without n es) (λ xs. length xs ≤ length (e ∷ es)) (λ _. omega arith) (λ _. omega arith)

length_less : (n : Bytes) (es : List Entry) → named n es ≡ true → length (without n es) < length es
length_less n [] d = absurd (false≢true d)
length_less n (e ∷ es) d =
    let h = length_without n es in
    cond_both (bytes_eq n e.name) (without n es) (e ∷ without n es) (λ xs. length xs < length (e ∷ es)) (λ _. omega arith)
    (λ s. ⊎_elim (λ q. absurd (false≢true (sym s ∙ q))) (λ q. omega (arith, length_less n es q)) (or_cases _ _ d))

pub positive : (a b : ℕ) → (nat_eq a 0 || nat_eq b 0) ≡ false → (0 < a) × (0 < b)
positive a b e =
    let p = or_parts _ _ e in
    let x : a ≡ 0 → ⊥ = eqb-false a 0 p.0 in
    let y : b ≡ 0 → ⊥ = eqb-false b 0 p.1 in
    (omega arith, omega arith)

-- the ways of an insert: nothing, to a name that is there, to a new one past the limit or within it
stored_by : (P : List Entry → Type 0) (names tokens : ℕ) (n t : Bytes) (es : List Entry) → P es
    → (0 < names → 0 < tokens → named n es ≡ true → P (without n es ++ record { name = n; tokens = added tokens t (tokens_of n es) } ∷ []))
    → (0 < names → 0 < tokens → named n es ≡ false → names ≤ length es → P (drop 1 es ++ record { name = n; tokens = t ∷ [] } ∷ []))
    → (0 < names → 0 < tokens → named n es ≡ false → length es < names → P (es ++ record { name = n; tokens = t ∷ [] } ∷ []))
    → P (stored names tokens n t es)
stored_by P names tokens n t es off again full room =
    cond_both (nat_eq names 0 || nat_eq tokens 0) es _ P (λ _. off)
    (λ e.
    let z = positive names tokens e in
    cond_both (named n es) _ _ P (again z.0 z.1)
    (λ d. cond_both (nat_le names (length es)) (drop 1 es) es (λ xs. P (xs ++ record { name = n; tokens = t ∷ [] } ∷ []))
    (λ l. full z.0 z.1 d (leb-true _ _ l)) (λ l. room z.0 z.1 d (leb-false _ _ l))))

-- an insert adds at most the given token
into_named : (k : ℕ) (n t : Bytes) (es : List Entry) → Inserted n t (holding es) (holding (without n es ++ record { name = n; tokens = added k t (tokens_of n es) } ∷ []))
into_named k n t es m u h =
    ⊎_elim
    (λ d.
    let e = same_true m n d in
    let z : named m (without n es) ≡ false = rw e (named_without_same n es) in
    ⊎_elim (λ a. inl (rw e a)) (λ a. inr (e, a)) (has-added k t (tokens_of n es) u (sym (ap (has u) (tokens_push_same (without n es) _ m z d)) ∙ h)))
    (λ d. inl (sym (ap (has u) (tokens_push_other (without n es) _ m d ∙ tokens_without n m es d)) ∙ h))
    (cases_Bool (bytes_eq m n))

into_new : (n t : Bytes) (es fs : List Entry) → named n fs ≡ false → ((m u : Bytes) → holding fs m u ≡ true → holding es m u ≡ true)
    → Inserted n t (holding es) (holding (fs ++ record { name = n; tokens = t ∷ [] } ∷ []))
into_new n t es fs z k m u h =
    ⊎_elim
    (λ d.
    let e = same_true m n d in
    let y : named m fs ≡ false = rw e z in
    inr (e, same_true u t (sym (or_nil _) ∙ sym (ap (has u) (tokens_push_same fs _ m y d)) ∙ h)))
    (λ d. inl (k m u (sym (ap (has u) (tokens_push_other fs _ m d)) ∙ h)))
    (cases_Bool (bytes_eq m n))

pub inserted : (names tokens : ℕ) (n t : Bytes) (es : List Entry) → sound es ≡ true → Inserted n t (holding es) (holding (stored names tokens n t es))
inserted names tokens n t es s =
    stored_by (λ xs. Inserted n t (holding es) (holding xs)) names tokens n t es (λ m u h. inl h) (λ _ _ _. into_named tokens n t es)
    (λ _ _ z _. into_new n t es (drop 1 es) (named-drop es n z) (λ m u. tokens_drop es m u s)) (λ _ _ z _. into_new n t es es z (λ m u h. h))

-- a take removes what it hands out
abbrev Removed : Bytes → Option Bytes → Holds → Holds → Type 0
Removed n None h h' = Alike h h'
Removed n (Some t) h h' = Handed n t h h'

tokens_left : (n : Bytes) (es : List Entry) (us : List Bytes) → tokens_of n (leave n es us) ≡ us
tokens_left n es [] = tokens_none n (without n es) (named_without_same n es)
tokens_left n es (u ∷ us) = tokens_push_same (without n es) (record { name = n; tokens = u ∷ us }) n (named_without_same n es) (same_refl n)

tokens_beside : (n m : Bytes) (es : List Entry) (us : List Bytes) → bytes_eq m n ≡ false → tokens_of m (leave n es us) ≡ tokens_of m es
tokens_beside n m es [] d = tokens_without n m es d
tokens_beside n m es (u ∷ us) d = tokens_push_other (without n es) (record { name = n; tokens = u ∷ us }) m d ∙ tokens_without n m es d

removed_one : (n x : Bytes) (ts : List Bytes) (i : ℕ) (es : List Entry) → tokens_of n es ≡ ts → Picked ts i x → Removed n (Some x) (holding es) (holding (leave n es (cut i ts)))
removed_one n x ts i es had k = record {
  held = ap (has x) had ∙ k.there;
  gone = ap (has x) (tokens_left n es (cut i ts)) ∙ k.gone;
  others = λ m u y. ⊎_elim
      (λ d. let z = same_true m n d in rw z (ap (has u) (tokens_left n es (cut i ts)) ∙ k.others u (y z) ∙ sym (ap (has u) had)))
      (λ d. ap (has u) (tokens_beside n m es (cut i ts) d)) (cases_Bool (bytes_eq m n));
}

removed_by : (p : ℕ → ℕ) (n : Bytes) (es : List Entry) (ts : List Bytes) → Within p → tokens_of n es ≡ ts → apart ts ≡ true
    → Removed n (given p ts) (holding es) (holding (rest p n es ts))
removed_by p n es [] w e a = λ m u. refl
removed_by p n es (t ∷ ts) w e a =
    let i = p (length (t ∷ ts)) in
    let f = nth_there (t ∷ ts) i (w (length (t ∷ ts)) (omega arith)) in
    let P : Option Bytes → Type 0 = λ o. Removed n o (holding es) (holding (leave n es (cut i (t ∷ ts)))) in
    subst P (sym f.1) (removed_one n f.0 (t ∷ ts) i es e (picked (t ∷ ts) i f.0 a f.1))

-- the limits are kept
module _ (names tokens : ℕ) (es : List Entry) (k : Kept names tokens es) where
  pub fits_of : (n : Bytes) → length (tokens_of n es) ≤ tokens
  fits_of n = tokens_by (λ ts. length ts ≤ tokens) (λ e. nat_le (length e.tokens) tokens) (omega arith) (λ e. leb-true (length e.tokens) tokens) n es k.3

  shorts_of : (n : Bytes) → shorts (tokens_of n es) ≡ true
  shorts_of n = tokens_by (λ ts. shorts ts ≡ true) (λ e. nat_le (length e.name) 255 && shorts e.tokens) refl (λ e h. (and_parts _ _ h).1) n es k.1

  -- a name pushed to some of the entries
  kept_push : (fs : List Entry) (n : Bytes) (ts : List Bytes) → sound fs ≡ true → short fs ≡ true → fits tokens fs ≡ true → length fs < names
      → named n fs ≡ false → length n ≤ 255 → apart ts ≡ true → some ts ≡ true → shorts ts ≡ true → length ts ≤ tokens
      → Kept names tokens (fs ++ record { name = n; tokens = ts } ∷ [])
  kept_push fs n ts s h f l z b a o c d =
      let e : Entry = record { name = n; tokens = ts } in (
        sound_push fs e s z a o,
        every_push (λ x. nat_le (length x.name) 255 && shorts x.tokens) fs e h (and_from _ _ (le-leb _ _ b) c),
        omega (arith, length_push fs e, l),
        every_push (λ x. nat_le (length x.tokens) tokens) fs e f (le-leb _ _ d),
      )

  short-without : (n : Bytes) → short (without n es) ≡ true
  short-without n = every-without (λ x. nat_le (length x.name) 255 && shorts x.tokens) n es k.1

  fits-without : (n : Bytes) → fits tokens (without n es) ≡ true
  fits-without n = every-without (λ x. nat_le (length x.tokens) tokens) n es k.3

  kept_named : (n : Bytes) (ts : List Bytes) → length n ≤ 255 → named n es ≡ true → apart ts ≡ true → some ts ≡ true → shorts ts ≡ true → length ts ≤ tokens
      → Kept names tokens (without n es ++ record { name = n; tokens = ts } ∷ [])
  kept_named n ts b d a o c l =
      kept_push (without n es) n ts (sound-without n es k.0) (short-without n) (fits-without n) (omega (arith, length_less n es d, k.2)) (named_without_same n es) b a o c l

  pub kept_stored : (n t : Bytes) → length n ≤ 255 → length t ≤ 512 → Kept names tokens (stored names tokens n t es)
  kept_stored n t b c =
      let one : shorts (t ∷ []) ≡ true = and_from _ _ (le-leb _ _ c) refl in
      stored_by (Kept names tokens) names tokens n t es k
      (λ _ z d. kept_named n (added tokens t (tokens_of n es)) b d (apart-added tokens t (tokens_of n es) (apart_of es n k.0)) (some-added tokens t (tokens_of n es))
      (shorts-added tokens t (tokens_of n es) (shorts_of n) c) (length-added tokens t (tokens_of n es) z (fits_of n)))
      (λ y z d l. kept_push (drop 1 es) n (t ∷ []) (sound-drop es k.0) (every_drop (λ x. nat_le (length x.name) 255 && shorts x.tokens) es k.1)
      (every_drop (λ x. nat_le (length x.tokens) tokens) es k.3) (omega (arith, length-drop 1 es, k.2, l)) (named-drop es n d) b refl refl one (omega arith))
      (λ y z d l. kept_push es n (t ∷ []) k.0 k.1 k.3 l d b refl refl one (omega arith))

  kept_leave : (n : Bytes) (us : List Bytes) → length n ≤ 255 → named n es ≡ true → apart us ≡ true → shorts us ≡ true → length us ≤ tokens → Kept names tokens (leave n es us)
  kept_leave n [] b d a c l = (sound-without n es k.0, short-without n, omega (arith, length_without n es, k.2), fits-without n)
  kept_leave n (u ∷ us) b d a c l = kept_named n (u ∷ us) b d a refl c l

  pub kept_rest : (p : ℕ → ℕ) (n : Bytes) (ts : List Bytes) → Within p → length n ≤ 255 → tokens_of n es ≡ ts → Kept names tokens (rest p n es ts)
  kept_rest p n [] w b e = k
  kept_rest p n (t ∷ ts) w b e =
      let i = p (length (t ∷ ts)) in
      let f = nth_there (t ∷ ts) i (w (length (t ∷ ts)) (omega arith)) in
      let q = picked (t ∷ ts) i f.0 (ap apart (sym e) ∙ apart_of es n k.0) f.1 in
      let l : length (t ∷ ts) ≤ tokens = rw e at (fits_of n) in
      kept_leave n (cut i (t ∷ ts)) b (named_some n t ts es e) q.still (q.short (ap shorts (sym e) ∙ shorts_of n)) (omega (arith, q.fewer))

  pub removed : (p : ℕ → ℕ) (n : Bytes) (o : Option Bytes) → Within p → handed_out p n es ≡ o → Removed n o (holding es) (holding (taken p n es))
  removed p n o w e =
      let P : Option Bytes → Type 0 = λ x. Removed n x (holding es) (holding (taken p n es)) in
      subst P e (removed_by p n es (tokens_of n es) w refl (apart_of es n k.0))

-- a name that is there has a token
pub some_of : (es : List Entry) (n : Bytes) → sound es ≡ true → named n es ≡ true → some (tokens_of n es) ≡ true
some_of [] n s d = absurd (false≢true d)
some_of (e ∷ es) n s d =
    let p = and_parts _ _ s in
    cond_both (bytes_eq n e.name) e.tokens (tokens_of n es) (λ xs. some xs ≡ true) (λ _. (and_parts _ _ (and_parts _ _ p.0).1).1)
    (λ f. some_of es n p.1 (⊎_elim (λ t. absurd (false≢true (sym f ∙ t))) (λ t. t) (or_cases _ _ d)))

not_zero : (n : ℕ) → 0 < n → nat_eq n 0 ≡ false
not_zero n h = ne_eqb n 0 (λ e. omega arith)

added_new : (k : ℕ) (t : Bytes) → 0 < k → added k t [] ≡ t ∷ []
added_new k t z = ap (λ xs. xs ++ t ∷ []) (cond-false (nat_le k 0) (drop 1 []) [] (lt-leb k 0 z))

pub stored_is : (names tokens : ℕ) (n t : Bytes) (es : List Entry) → 0 < names → 0 < tokens
    → stored names tokens n t es ≡ others_of names n es ++ record { name = n; tokens = added tokens t (tokens_of n es) } ∷ []
stored_is names tokens n t es y z =
    let last : List Bytes → List Entry = λ ts. record { name = n; tokens = ts } ∷ [] in
    cond-false (nat_eq names 0 || nat_eq tokens 0) _ _ (or_from _ _ (not_zero names y) (not_zero tokens z))
    ∙ cond_both (named n es) (without n es ++ last (added tokens t (tokens_of n es))) ((if nat_le names (length es) then drop 1 es else es) ++ last (t ∷ []))
    (λ xs. xs ≡ others_of names n es ++ last (added tokens t (tokens_of n es)))
    (λ d. ap (λ xs. xs ++ last (added tokens t (tokens_of n es))) (sym (cond-true (named n es) (without n es) _ d)))
    (λ d. ap₂ (λ xs ts. xs ++ last ts) (sym (cond-false (named n es) (without n es) _ d)) (sym (ap (added tokens t) (tokens_none n es d) ∙ added_new tokens t z)))

pub fits_others : (names tokens : ℕ) (n : Bytes) (es : List Entry) → Kept names tokens es → fits tokens (others_of names n es) ≡ true
fits_others names tokens n es k =
    cond_both (named n es) (without n es) _ (λ xs. fits tokens xs ≡ true) (λ _. fits-without names tokens es k n)
    (λ _. cond_both (nat_le names (length es)) (drop 1 es) es (λ xs. fits tokens xs ≡ true) (λ _. every_drop (λ x. nat_le (length x.tokens) tokens) es k.3) (λ _. k.3))

pub length-others : (names tokens : ℕ) (n : Bytes) (es : List Entry) → Kept names tokens es → 0 < names → length (others_of names n es) < names
length-others names tokens n es k y =
    cond_both (named n es) (without n es) _ (λ xs. length xs < names) (λ d. omega (arith, length_less n es d, k.2))
    (λ _. cond_both (nat_le names (length es)) (drop 1 es) es (λ xs. length xs < names) (λ _. omega (arith, length-drop 1 es, k.2)) (λ l. leb-false _ _ l))

-- a cache that goes by these lists is a store, and keeps to its limits
pub record TheListsAreAStore (p : ℕ → ℕ) (names tokens : ℕ) (es : List Entry) : Type 0 where
  pub stores : (n t : Bytes) → length n ≤ 255 → length t ≤ 512 → Stores n t (holding es) (holding (stored names tokens n t es)) (Ok tt)
  pub hands : (n t out : Bytes) → 512 ≤ length out → length n ≤ 255 → handed_out p n es ≡ Some t
      → Takes n out (fronted t out) (holding es) (holding (taken p n es)) (Ok (Some (length t)))
  pub none : (n out : Bytes) → 512 ≤ length out → length n ≤ 255 → handed_out p n es ≡ None → Takes n out out (holding es) (holding (taken p n es)) (Ok None)
  pub kept_stored : (n t : Bytes) → length n ≤ 255 → length t ≤ 512 → Kept names tokens (stored names tokens n t es)
  pub kept_taken : (n : Bytes) → length n ≤ 255 → Kept names tokens (taken p n es)

pub lists_are_a_store : (p : ℕ → ℕ) (names tokens : ℕ) (es : List Entry) → Within p → Kept names tokens es → TheListsAreAStore p names tokens es
lists_are_a_store p names tokens es w k = record {
  stores = λ n t a b. inserts a b (inserted names tokens n t es k.0);
  hands = λ n t out a b e. handing a b t (nth_short (tokens_of n es) (p (length (tokens_of n es))) t e (shorts_of names tokens es k n)) refl (removed names tokens es k p n (Some t) w e);
  none = λ n out a b e. none a b refl (removed names tokens es k p n None w e);
  kept_stored = kept_stored names tokens es k;
  kept_taken = λ n b. kept_rest names tokens es k p n (tokens_of n es) w b refl;
}
