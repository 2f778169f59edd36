-- The laws of caches over whole histories.
use Rattle.std.proofs.Common.{◌≡◌, ℕ, ◌<◌, ◌≤◌, Bool, true, false, not, ◌⊎◌, ◌↔◌, List, [], ◌∷◌, ◌++◌, length, take, drop, Some, Ok, sym, refl, ap, ◌∙◌, subst, inl, inr, ⊎_elim, ◌≢◌, arith}
use Rattle.std.specs.Str.{bytes_eq}
use Rattle.std.proofs.lemmas.Bool.{false≢true, and_parts, or_parts, or_cases, or_from, or_left, or_right, cond-true, cond-false, cases_Bool, not-true, le-leb}
use Rattle.std.proofs.lemmas.Slice.Eq.{bytes_eq-Decides}
use Rattle.token_store.specs.Store.{Bytes}
use Rattle.token_store.specs.Laws.Call.{insertion, taking}
use Rattle.token_memory_cache.specs.Cache.{Entry, Cache, has, named, tokens_of, without, others_of, added, stored, handed_out, taken, holding, apart, some, sound}
use Rattle.token_memory_cache.specs.Orders.{Within, first, last}
use Rattle.token_memory_cache.specs.Histories.{Event, History, Throughout, entries_after, held, came, last_use, CameFirst, CameLast, UnusedLongest, HandsOut, HandsOutTheOldest, HandsOutTheNewest, PastTheLimit, PushedOut, PushesOutTheUnused, Leaves, LosesOnlySo, Comes, AddsOnlySo, HoldsWhatIsInserted}
use Rattle.token_memory_cache.specs.Histories.Leaves.{handed_out as was_handed_out, oldest_of_full, name_pushed_out}
use Rattle.token_memory_cache.proofs.Sameness.{same_refl, same_true, same_ne}
use Rattle.token_memory_cache.proofs.Caches.{tokens_none, tokens_without, tokens_push_other, tokens_push_same, has_push, apart_of, added_by, fits_of, inserted, removed, some_of, stored_is}
use Rattle.token_memory_cache.proofs.Rising.{Rising}
use Rattle.token_memory_cache.proofs.Turns.{Turn}
use Rattle.token_memory_cache.proofs.Turns.Turn.{refused_insert, refused_take, found_none, no_room, stores, hands}
use Rattle.token_memory_cache.proofs.Ageing.{Met, met, each, others_by, named-others}
use Rattle.token_memory_cache.proofs.Taking.{at_token, first_least, last_most}

not_both : {X : Type 0} (b : Bool) → b ≡ false → b ≡ true → X
not_both b f t = absurd (false≢true (sym f ∙ t))

first_of : (ts : List Bytes) → some ts ≡ true → (t : Bytes) × (has t ts ≡ true)
first_of [] h = absurd (false≢true h)
first_of (t ∷ ts) h = (t, let e = same_refl t in rw e refl)

-- a name with a token stands among the entries
named_if : (es : List Entry) (n t : Bytes) → has t (tokens_of n es) ≡ true → named n es ≡ true
named_if es n t h = ⊎_elim (λ d. d) (λ d. not_both _ (ap (has t) (tokens_none n es d)) h) (cases_Bool (named n es))

unnamed_if : (es : List Entry) (n : Bytes) → sound es ≡ true → ((t : Bytes) → holding es n t ≡ false) → named n es ≡ false
unnamed_if es n s h =
    ⊎_elim (λ d. let p = first_of (tokens_of n es) (some_of es n s d) in not_both _ (h p.0) p.1) (λ d. d) (cases_Bool (named n es))

-- the entry that a number rises from, and another name among the entries
later_name : (f : Bytes → ℕ) (e : Entry) (es : List Entry) → Rising (λ x. f x.name) (e ∷ es) → (m : Bytes) → named m es ≡ true → f e.name < f m
later_name f e [] r m h = absurd (false≢true h)
later_name f e (y ∷ es) r m h =
    ⊎_elim (λ d. subst (λ n. f e.name < f n) (sym (same_true m y.name d)) r.0.0) (λ d. later_name f e es (r.0.1, r.1.1) m d) (or_cases _ _ h)

-- where names stand, a first one, and no other of its name
first_entry : (names : ℕ) (es : List Entry) → 0 < names → length es ≡ names → sound es ≡ true → (e : Entry) × (fs : List Entry) × (es ≡ e ∷ fs) × (named e.name fs ≡ false)
first_entry names [] z l s = absurd (let y : 0 ≡ names = l in omega arith)
first_entry names (e ∷ fs) z l s = (e, fs, refl, not-true _ (and_parts _ _ (and_parts _ _ s).0).0)

ne_of : (a b : Bytes) → bytes_eq a b ≡ false → a ≢ b
ne_of a b d e = not_both _ d ((bytes_eq-Decides a b).1 e)

-- a token that is not behind the first of its name comes before the others, and one that does so is not behind the first
first_if : (f : Bytes → ℕ) (ts : List Bytes) (t : Bytes) → Rising f ts → has t ts ≡ true → has t (drop 1 ts) ≡ false → (u : Bytes) → has u ts ≡ true → u ≢ t → f t < f u
first_if f [] t r h z u d e = absurd (false≢true h)
first_if f (v ∷ vs) t r h z u d e =
    let p : t ≡ v = ⊎_elim (λ q. same_true t v q) (λ q. not_both _ z q) (or_cases _ _ h) in
    ⊎_elim (λ q. absurd (e (same_true u v q ∙ sym p))) (λ q. subst (λ w. f w < f u) (sym p) (at_token (λ w. f v < f w) vs r.0 u q)) (or_cases _ _ d)

not_later : (f : Bytes → ℕ) (ts : List Bytes) (t : Bytes) → Rising f ts → apart ts ≡ true → ((u : Bytes) → has u ts ≡ true → u ≢ t → f t < f u) → has t (drop 1 ts) ≡ false
not_later f [] t r a h = refl
not_later f (v ∷ vs) t r a h =
    ⊎_elim
    (λ q.
    let above : f v < f t = at_token (λ w. f v < f w) vs r.0 t q in
    let lone : has v vs ≡ false = not-true (has v vs) (and_parts (not (has v vs)) (apart vs) a).0 in
    let other : v ≢ t = λ e. false≢true (sym lone ∙ (ap (λ w. has w vs) e ∙ q)) in
    let below : f t < f v = h v (or_left _ _ (same_refl v)) other in
    absurd (omega (arith, above, below)))
    (λ q. q) (cases_Bool (has t vs))

has_itself : (k : ℕ) (t : Bytes) (ts : List Bytes) → has t (added k t ts) ≡ true
has_itself k t ts =
    added_by (λ us. has t us ≡ true) k t ts (λ h. h) (λ _ _. has_push (drop 1 ts) t t ∙ or_right _ _ (same_refl t)) (λ _ _. has_push ts t t ∙ or_right _ _ (same_refl t))

module _ (p : ℕ → ℕ) (within : Within p) (names tokens : ℕ) (x : Event) (xs : History) (m : Met p names tokens x xs) where
  abbrev es : List Entry
  es = entries_after xs

  abbrev zs : List Entry
  zs = x.left.entries

  -- the ways of a call that is known
  inserted_way : (n t : Bytes) → x.call ≡ insertion n t (Ok tt) → Turn p names tokens x.call es zs
      → ((0 < names → 0 < tokens → ⊥) × (es ≡ [])) ⊎ ((0 < names) × (0 < tokens) × (zs ≡ stored names tokens n t es))
  inserted_way n t c (refused_insert n' t' e d w) = cc
  inserted_way n t c (refused_take n' out out' e d w) = cc
  inserted_way n t c (found_none n' out out' d z w) = cc
  inserted_way n t c (no_room n' t' d z w v) = inl (z, w)
  inserted_way n t c (stores n' t' d y z w) =
      let p : n' ≡ n = cc in
      let q : t' ≡ t = cc in
      inr (y, z, w ∙ (ap (λ i. stored names tokens i t' es) p ∙ ap (λ i. stored names tokens n i es) q))
  inserted_way n t c (hands n' out out' t' k d f h w) = cc

  taken_way : (n out out' : Bytes) (k : ℕ) → x.call ≡ taking n out out' (Ok (Some k)) → Turn p names tokens x.call es zs
      → (handed_out p n es ≡ Some (take k out')) × (zs ≡ taken p n es)
  taken_way n out out' k c (refused_insert n' t' e d w) = cc
  taken_way n out out' k c (refused_take n' o o' e d w) = cc
  taken_way n out out' k c (found_none n' o o' d z w) = cc
  taken_way n out out' k c (no_room n' t' d z w v) = cc
  taken_way n out out' k c (stores n' t' d y z w) = cc
  taken_way n out out' k c (hands n' o o' t' j d f h w) =
      let same : n' ≡ n = cc in
      let q : o' ≡ out' = cc in
      let r : j ≡ k = cc in
      (ap (λ i. handed_out p i es) (sym same) ∙ (h ∙ ap Some (sym f ∙ (ap (λ i. take i o') r ∙ ap (take k) q))), w ∙ ap (λ i. taken p i es) same)

  -- what a take hands out is held, and is as the order says
  handed_is_held : (n t : Bytes) → handed_out p n es ≡ Some t → held xs n t ≡ true
  handed_is_held n t h = (removed names tokens es m.aged.kept p n (Some t) within h).held

  hands_out_by : (P : Bytes → Bytes → History → Type 0) → ((n t : Bytes) → handed_out p n es ≡ Some t → P n t xs) → Turn p names tokens x.call es zs → HandsOut P x.call xs
  hands_out_by P each (refused_insert n t e c w) = subst (λ y. HandsOut P y xs) (sym c) tt
  hands_out_by P each (refused_take n out out' e c w) = subst (λ y. HandsOut P y xs) (sym c) tt
  hands_out_by P each (found_none n out out' c z w) = subst (λ y. HandsOut P y xs) (sym c) (λ t. ap (has t) z)
  hands_out_by P each (no_room n t c z w v) = subst (λ y. HandsOut P y xs) (sym c) tt
  hands_out_by P each (stores n t c y z w) = subst (λ y. HandsOut P y xs) (sym c) tt
  hands_out_by P each (hands n out out' t k c f h w) = subst (λ y. HandsOut P y xs) (sym c) (subst (λ i. P n i xs) (sym f) (each n t h))

  -- after an insert within the limits above zero: the tokens of its name, and those of another one
  own_tokens : (n t : Bytes) → 0 < names → 0 < tokens → zs ≡ stored names tokens n t es → tokens_of n zs ≡ added tokens t (tokens_of n es)
  own_tokens n t y z w =
      let e : Entry = record { name = n; tokens = added tokens t (tokens_of n es) } in
      ap (tokens_of n) (w ∙ stored_is names tokens n t es y z) ∙ tokens_push_same (others_of names n es) e n (named-others names n es) (same_refl n)

  other_tokens : (n t : Bytes) → 0 < names → 0 < tokens → zs ≡ stored names tokens n t es → (k : Bytes) → bytes_eq k n ≡ false
      → tokens_of k zs ≡ tokens_of k (others_of names n es)
  other_tokens n t y z w k d =
      let e : Entry = record { name = n; tokens = added tokens t (tokens_of n es) } in
      ap (tokens_of k) (w ∙ stored_is names tokens n t es y z) ∙ tokens_push_other (others_of names n es) e k d

  -- the first entry is the name that was unused longest
  first_unused : (e : Entry) (fs : List Entry) → es ≡ e ∷ fs → UnusedLongest e.name xs
  first_unused e fs is =
      let there : named e.name es ≡ true = ap (named e.name) is ∙ or_left _ _ (same_refl e.name) in
      let r : Rising (λ y. last_use y.name xs) (e ∷ fs) = subst (Rising (λ y. last_use y.name xs)) is m.aged.by_use in
      record {
        here = first_of (tokens_of e.name es) (some_of es e.name m.aged.kept.0 there);
        first = λ k t h d.
            let some_place : named k (e ∷ fs) ≡ true = ap (named k) (sym is) ∙ named_if es k t h in
            later_name (λ n. last_use n xs) e fs r k (⊎_elim (λ q. absurd (d (same_true k e.name q))) (λ q. q) (or_cases _ _ some_place));
      }

  unused_is_first : (e : Entry) (fs : List Entry) → es ≡ e ∷ fs → (k : Bytes) → UnusedLongest k xs → k ≡ e.name
  unused_is_first e fs is k u =
      let o = first_unused e fs is in
      ⊎_elim (λ q. same_true k e.name q)
      (λ q.
      let a : last_use e.name xs < last_use k xs = o.first k u.here.0 u.here.1 (ne_of k e.name q) in
      let b : last_use k xs < last_use e.name xs = u.first e.name o.here.0 o.here.1 (λ d. ne_of k e.name q (sym d)) in
      absurd (omega arith))
      (cases_Bool (bytes_eq k e.name))

  past_others : (n : Bytes) (e : Entry) (fs : List Entry) → es ≡ e ∷ fs → named n es ≡ false → length es ≡ names → others_of names n es ≡ fs
  past_others n e fs is d l =
      let full : names ≤ length es = omega arith in
      cond-false (named n es) (without n es) _ d ∙ (cond-true _ (drop 1 es) es (le-leb _ _ full) ∙ ap (drop 1) is)

  nothing_held : {X : Type 0} → es ≡ [] → (n t : Bytes) → held xs n t ≡ true → X
  nothing_held e n t h = not_both _ (ap (λ y. holding y n t) e) h

  -- a name past the limit
  pushed_by : (n t : Bytes) → 0 < names → 0 < tokens → zs ≡ stored names tokens n t es → PastTheLimit names n xs → (k : Bytes) → PushedOut k x xs ↔ UnusedLongest k xs
  pushed_by n t y z w past k =
      let p = first_entry names es y past.full m.aged.kept.0 in
      let e : Entry = p.0 in
      let fs : List Entry = p.1 in
      let unnamed : named n es ≡ false = unnamed_if es n m.aged.kept.0 past.new in
      let after : (j : Bytes) → bytes_eq j n ≡ false → tokens_of j zs ≡ tokens_of j fs = λ j d. other_tokens n t y z w j d ∙ ap (tokens_of j) (past_others n e fs p.2 unnamed past.full) in
      let not_new : (j u : Bytes) → held xs j u ≡ true → bytes_eq j n ≡ false = λ j u h. same_ne j n (λ q. not_both _ (past.new u) (rw q at h)) in (
        (λ g. ⊎_elim
            (λ q. subst (λ j. UnusedLongest j xs) (sym (same_true k e.name q)) (first_unused e fs p.2))
            (λ q.
            let same : tokens_of k zs ≡ tokens_of k es = after k (not_new k g.was.0 g.was.1) ∙ sym (ap (tokens_of k) p.2 ∙ cond-false _ _ _ q) in
            not_both _ (g.none g.was.0) (ap (has g.was.0) same ∙ g.was.1))
            (cases_Bool (bytes_eq k e.name))),
        (λ u.
            let same : k ≡ e.name = unused_is_first e fs p.2 k u in
            let lone : named k fs ≡ false = rw same p.3 in
            record { was = u.here; none = λ v. ap (has v) (after k (not_new k u.here.0 u.here.1) ∙ tokens_none k fs lone) }),
      )

  pub pushes_out_the_unused : PushesOutTheUnused names tokens x xs
  pushes_out_the_unused n t c past k =
      ⊎_elim
      (λ w. ((λ g. nothing_held w.1 k g.was.0 g.was.1), (λ u. nothing_held w.1 k u.here.0 u.here.1)))
      (λ w. pushed_by n t w.0 w.1 w.2 past k)
      (inserted_way n t c m.turn)

  -- a token that goes at an insert under its name
  goes_at_home : (n t u : Bytes) → x.call ≡ insertion n u (Ok tt) → held xs n t ≡ true → has t (added tokens u (tokens_of n es)) ≡ false → Leaves names tokens n t x xs
  goes_at_home n t u c h =
      let ts : List Bytes = tokens_of n es in
      added_by (λ us. has t us ≡ false → Leaves names tokens n t x xs) tokens u ts (λ _ z. not_both _ z h)
      (λ d l z.
      let most : length ts ≤ tokens = fits_of names tokens es m.aged.kept n in
      let all : length ts ≡ tokens = omega arith in
      let rest = or_parts _ _ (sym (has_push (drop 1 ts) u t) ∙ z) in
      oldest_of_full c d all (record { here = h; first = first_if (λ v. came n v xs) ts t (m.aged.by_coming n) h rest.0 }))
      (λ d l z. not_both _ (or_parts _ _ (sym (has_push ts u t) ∙ z)).0 h)

  -- and at one under another name
  goes_with_its_name : (n t k u : Bytes) → x.call ≡ insertion k u (Ok tt) → 0 < names → bytes_eq n k ≡ false → held xs n t ≡ true
      → has t (tokens_of n (others_of names k es)) ≡ false → Leaves names tokens n t x xs
  goes_with_its_name n t k u c y d h =
      others_by (λ ys. has t (tokens_of n ys) ≡ false → Leaves names tokens n t x xs) names k es
      (λ _ z. not_both _ z (ap (has t) (tokens_without k n es d) ∙ h))
      (λ q l z.
      let most : length es ≤ names = m.aged.kept.2 in
      let full : length es ≡ names = omega arith in
      let p = first_entry names es y full m.aged.kept.0 in
      ⊎_elim
      (λ r. name_pushed_out c (record { new = λ v. ap (has v) (tokens_none k es q); full = full })
      (subst (λ j. UnusedLongest j xs) (sym (same_true n p.0.name r)) (first_unused p.0 p.1 p.2)))
      (λ r.
      let same : tokens_of n (drop 1 es) ≡ tokens_of n es = ap (λ ys. tokens_of n (drop 1 ys)) p.2 ∙ sym (ap (tokens_of n) p.2 ∙ cond-false _ _ _ r) in
      not_both _ z (ap (has t) same ∙ h))
      (cases_Bool (bytes_eq n p.0.name)))
      (λ _ _ z. not_both _ z h)

  goes : (n t : Bytes) → held xs n t ≡ true → holding zs n t ≡ false → Turn p names tokens x.call es zs → Leaves names tokens n t x xs
  goes n t h z (refused_insert n' t' e c w) = not_both _ z (ap (λ y. holding y n t) w ∙ h)
  goes n t h z (refused_take n' out out' e c w) = not_both _ z (ap (λ y. holding y n t) w ∙ h)
  goes n t h z (found_none n' out out' c v w) = not_both _ z (ap (λ y. holding y n t) w ∙ h)
  goes n t h z (no_room n' t' c v w u) = nothing_held w n t h
  goes n t h z (stores n' t' c y v w) =
      ⊎_elim
      (λ q.
      let p : n' ≡ n = sym (same_true n n' q) in
      let w' : zs ≡ stored names tokens n t' es = w ∙ ap (λ i. stored names tokens i t' es) p in
      goes_at_home n t t' (c ∙ ap (λ i. insertion i t' (Ok tt)) p) h (sym (ap (has t) (own_tokens n t' y v w')) ∙ z))
      (λ q. goes_with_its_name n t n' t' c y q h (sym (ap (has t) (other_tokens n' t' y v w n q)) ∙ z))
      (cases_Bool (bytes_eq n n'))
  goes n t h z (hands n' out out' t' k c f d w) =
      let r = removed names tokens es m.aged.kept p n' (Some t') within d in
      let other : (n ≡ n' → t ≢ t') → ⊥ = λ q. false≢true (sym z ∙ (ap (λ y. holding y n t) w ∙ (r.others n t q ∙ h))) in
      ⊎_elim
      (λ p. ⊎_elim
      (λ q. was_handed_out (c ∙ ap (λ i. taking i out out' (Ok (Some k))) (sym (same_true n n' p))) (f ∙ sym (same_true t t' q)))
      (λ q. absurd (other (λ _. ne_of t t' q)))
      (cases_Bool (bytes_eq t t')))
      (λ p. absurd (other (λ q. absurd (ne_of n n' p q))))
      (cases_Bool (bytes_eq n n'))

  gone : (n t : Bytes) → held xs n t ≡ true → Leaves names tokens n t x xs → holding zs n t ≡ false
  gone n t h (was_handed_out {out = out} {out' = out'} {k = k} c f) =
      let w = taken_way n out out' k c m.turn in
      let r = removed names tokens es m.aged.kept p n (Some (take k out')) within w.0 in
      ap (λ y. holding y n t) w.1 ∙ subst (λ i. holding (taken p n es) n i ≡ false) f r.gone
  gone n t h (oldest_of_full {u = u} c z l first) =
      let ts : List Bytes = tokens_of n es in
      let full : tokens ≤ length ts = omega arith in
      let behind : has t (drop 1 ts) ≡ false = not_later (λ v. came n v xs) ts t (m.aged.by_coming n) (apart_of es n m.aged.kept.0) first.first in
      ⊎_elim
      (λ w. nothing_held w.1 n t h)
      (λ w. ap (has t) (own_tokens n u w.0 w.1 w.2 ∙ (cond-false (has u ts) ts _ z ∙ ap (λ us. us ++ u ∷ []) (cond-true _ (drop 1 ts) ts (le-leb _ _ full))))
      ∙ (has_push (drop 1 ts) u t ∙ or_from _ _ behind (same_ne t u (λ q. not_both _ z (rw q at h)))))
      (inserted_way n u c m.turn)
  gone n t h (name_pushed_out {m = k} {u = u} c past unused) = ((pushes_out_the_unused k u c past n).1 unused).none t

  pub loses_only_so : LosesOnlySo names tokens x xs
  loses_only_so n t h = ((λ z. goes n t h z m.turn), gone n t h)

  -- what comes
  pub holds_what_is_inserted : HoldsWhatIsInserted names tokens x xs
  holds_what_is_inserted n t c =
      ⊎_elim (λ w. absurd (w.0 c.names_allowed c.tokens_allowed)) (λ w. ap (has t) (own_tokens n t w.0 w.1 w.2) ∙ has_itself tokens t (tokens_of n es))
      (inserted_way n t c.insert m.turn)

  comes : (n t : Bytes) → held xs n t ≡ false → holding zs n t ≡ true → Turn p names tokens x.call es zs → Comes names tokens n t x
  comes n t z h (refused_insert n' t' e c w) = not_both _ z (sym (ap (λ y. holding y n t) w) ∙ h)
  comes n t z h (refused_take n' out out' e c w) = not_both _ z (sym (ap (λ y. holding y n t) w) ∙ h)
  comes n t z h (found_none n' out out' c v w) = not_both _ z (sym (ap (λ y. holding y n t) w) ∙ h)
  comes n t z h (no_room n' t' c v w u) = not_both _ (ap (λ y. holding y n t) u) h
  comes n t z h (stores n' t' c y v w) =
      ⊎_elim
      (λ q. not_both _ z q)
      (λ q. record { insert = c ∙ (ap (λ i. insertion i t' (Ok tt)) (sym q.0) ∙ ap (λ i. insertion n i (Ok tt)) (sym q.1)); names_allowed = y; tokens_allowed = v })
      (inserted names tokens n' t' es m.aged.kept.0 n t (sym (ap (λ y. holding y n t) w) ∙ h))
  comes n t z h (hands n' out out' t' k c f d w) =
      let r = removed names tokens es m.aged.kept p n' (Some t') within d in
      let h' : holding (taken p n' es) n t ≡ true = sym (ap (λ y. holding y n t) w) ∙ h in
      let other : (n ≡ n' → t ≢ t') → ⊥ = λ q. false≢true (sym z ∙ (sym (r.others n t q) ∙ h')) in
      absurd (other (λ p q. not_both _ r.gone (rw (p, q) at h')))

  pub adds_only_so : AddsOnlySo names tokens x xs
  adds_only_so n t z = ((λ h. comes n t z h m.turn), holds_what_is_inserted n t)

-- the orders
pub hands_out_the_oldest : (names tokens : ℕ) (x : Event) (xs : History) → Met first names tokens x xs → HandsOutTheOldest names tokens x xs
hands_out_the_oldest names tokens x xs m =
    hands_out_by first (λ k z. z) names tokens x xs m CameFirst
    (λ n t h. record {
      here = handed_is_held first (λ k z. z) names tokens x xs m n t h;
      first = first_least (λ u. came n u xs) (tokens_of n (entries_after xs)) t (m.aged.by_coming n) h;
    })
    m.turn

pub hands_out_the_newest : (names tokens : ℕ) (x : Event) (xs : History) → Met last names tokens x xs → HandsOutTheNewest names tokens x xs
hands_out_the_newest names tokens x xs m =
    let within : Within last = λ k z. omega arith in
    hands_out_by last within names tokens x xs m CameLast
    (λ n t h. record {
      here = handed_is_held last within names tokens x xs m n t h;
      last = last_most (λ u. came n u xs) (tokens_of n (entries_after xs)) t (m.aged.by_coming n) h;
    })
    m.turn

-- and so throughout
pub throughout : (p : ℕ → ℕ) → Within p → (P : ℕ → ℕ → Event → History → Type 0) → ((names tokens : ℕ) (x : Event) (xs : History) → Met p names tokens x xs → P names tokens x xs) → (c : Cache) → Throughout p P c
throughout p w P h c names tokens nr tr xs r = each p names tokens (P names tokens) (h names tokens) xs (met p w names tokens nr tr xs c r)
