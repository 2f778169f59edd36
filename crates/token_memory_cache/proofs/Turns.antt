-- The ways that one call of a cache goes, and what each leaves.
use Rattle.std.proofs.Common.{◌≡◌, ℕ, ◌<◌, ◌≤◌, true, not, ◌&&◌, ◌||◌, nat_eq, nat_lt, List, [], ◌∷◌, length, take, drop, Some, None, Ok, Err, Option, Result, sym, refl, ap, ◌∙◌, subst, ⊎_elim, arith}
use Rattle.std.specs.Option.{option_map}
use Rattle.std.proofs.lemmas.Bool.{false≢true, and_parts, or_parts, or_cases, or_left, or_right, or_from, cond-true, cond-false, cases_Bool, ltb-false, leb-true, eqb-true}
use Rattle.std.proofs.lemmas.List.{take_at}
use Rattle.answers.specs.declared.Refusal.{Refusal}
use Rattle.answers.specs.declared.Refusal.TheVariants.{SmallBuffer, LongEntry}
use Rattle.token_store.specs.Store.{Bytes}
use Rattle.token_store.specs.Laws.{Call}
use Rattle.token_store.specs.Laws.Call.{insertion, taking}
use Rattle.token_memory_cache.specs.Cache.{Entry, Cache, named, apart, some, sound, Kept, tokens_of, stored, handed_out, taken, long_entry, put_in_front}
use Rattle.token_memory_cache.specs.Orders.{Within}
use Rattle.token_memory_cache.specs.Histories.{Does}
use Rattle.token_memory_cache.proofs.Caches.{kept_stored, kept_rest, positive}
use Rattle.token_memory_cache.proofs.Taking.{none_there}

-- a call on the entries es leaves es'
pub data Turn (p : ℕ → ℕ) (names tokens : ℕ) (call : Call) (es es' : List Entry) : Type 0 where
  refused_insert : (n t : Bytes) (e : Refusal) → call ≡ insertion n t (Err e) → es' ≡ es → Turn p names tokens call es es'
  refused_take : (n out out' : Bytes) (e : Refusal) → call ≡ taking n out out' (Err e) → es' ≡ es → Turn p names tokens call es es'
  found_none : (n out out' : Bytes) → call ≡ taking n out out' (Ok None) → tokens_of n es ≡ [] → es' ≡ es → Turn p names tokens call es es'
  no_room : (n t : Bytes) → call ≡ insertion n t (Ok tt) → (0 < names → 0 < tokens → ⊥) → es ≡ [] → es' ≡ [] → Turn p names tokens call es es'
  stores : (n t : Bytes) → call ≡ insertion n t (Ok tt) → 0 < names → 0 < tokens → es' ≡ stored names tokens n t es → Turn p names tokens call es es'
  hands : (n out out' t : Bytes) (k : ℕ) → call ≡ taking n out out' (Ok (Some k)) → take k out' ≡ t → handed_out p n es ≡ Some t → es' ≡ taken p n es
      → Turn p names tokens call es es'

pub some-length : (ts : List Bytes) → some ts ≡ true → 0 < length ts
some-length [] h = absurd (false≢true h)
some-length (t ∷ ts) h = omega arith

-- with a limit zero nothing stands
empty : (names tokens : ℕ) (es : List Entry) → Kept names tokens es → (0 < names → 0 < tokens → ⊥) → es ≡ []
empty names tokens [] k z = refl
empty names tokens (e ∷ es) k z =
    let one : length (e ∷ es) ≤ names = k.2 in
    let few : length e.tokens ≤ tokens = leb-true (length e.tokens) tokens (and_parts _ _ k.3).0 in
    let whole = and_parts (not (named e.name es) && (apart e.tokens && some e.tokens)) (sound es) k.0 in
    let own = and_parts (not (named e.name es)) (apart e.tokens && some e.tokens) whole.0 in
    let more : 0 < length e.tokens = some-length e.tokens (and_parts (apart e.tokens) (some e.tokens) own.1).1 in
    let y : 0 < names = omega (arith, one) in
    let w : 0 < tokens = omega (arith, few, more) in
    absurd (z y w)

zero : (a b : ℕ) → (nat_eq a 0 || nat_eq b 0) ≡ true → 0 < a → 0 < b → ⊥
zero a b e x y = ⊎_elim (λ p. let q : a ≡ 0 = eqb-true a 0 p in omega arith) (λ p. let q : b ≡ 0 = eqb-true b 0 p in omega arith) (or_cases _ _ e)

module _ (p : ℕ → ℕ) (w : Within p) (names tokens nr tr : ℕ) (es : List Entry) (k : Kept names tokens es) where
  abbrev at : List Entry → Cache
  at zs = record { names = names; tokens = tokens; name_records = nr; token_records = tr; entries = zs }

  -- what a call leaves: limits as they were, entries that keep to them, and one of the ways
  pub record Leaving (call : Call) (c' : Cache) : Type 0 where
    pub state : c' ≡ at c'.entries
    pub kept : Kept names tokens c'.entries
    pub turn : Turn p names tokens call es c'.entries

  leaving : (call : Call) (c' : Cache) (zs : List Entry) → c' ≡ at zs → Kept names tokens zs → Turn p names tokens call es zs → Leaving call c'
  leaving call c' zs e h w = subst (Leaving call) (sym e) (record { state = refl; kept = h; turn = w })

  accepted : (n t : Bytes) (call : Call) → call ≡ insertion n t (Ok tt) → Turn p names tokens call es (stored names tokens n t es)
  accepted n t call e =
      ⊎_elim
      (λ q.
      let z = zero names tokens q in
      let nothing : es ≡ [] = empty names tokens es k z in
      no_room n t e z nothing (cond-true (nat_eq names 0 || nat_eq tokens 0) _ _ q ∙ nothing))
      (λ q. let z = positive names tokens q in stores n t e z.0 z.1 refl)
      (cases_Bool (nat_eq names 0 || nat_eq tokens 0))

  inserting : (n t : Bytes) (r : Result (Unit {0}) Refusal) (c' : Cache) → Does p (at es) (insertion n t r) c' → Leaving (insertion n t r) c'
  inserting n t r c' d =
      ⊎_elim
      (λ q. leaving _ c' es (d.1 ∙ cond-true _ _ _ q) k (refused_insert n t LongEntry (ap (insertion n t) (d.0 ∙ cond-true _ _ _ q)) refl))
      (λ q.
      let l = or_parts _ _ q in
      leaving _ c' (stored names tokens n t es) (d.1 ∙ cond-false _ _ _ q)
      (kept_stored names tokens es k n t (ltb-false 255 (length n) l.0) (ltb-false 512 (length t) l.1))
      (accepted n t _ (ap (insertion n t) (d.0 ∙ cond-false _ _ _ q))))
      (cases_Bool (long_entry n t))

  answered : (n out out' : Bytes) (call : Call) (o : Option Bytes) → handed_out p n es ≡ o → call ≡ taking n out out' (Ok (option_map length o))
      → out' ≡ put_in_front o out → Turn p names tokens call es (taken p n es)
  answered n out out' call None h e f = let z = none_there p n es (tokens_of n es) w h in found_none n out out' e z.0 z.1
  answered n out out' call (Some t) h e f =
      hands n out out' t (length t) e (ap (take (length t)) f ∙ take_at t (drop (length t) out) (length t) refl) h refl

  taking_one : (n out out' : Bytes) (r : Result (Option ℕ) Refusal) (c' : Cache) → Does p (at es) (taking n out out' r) c' → Leaving (taking n out out' r) c'
  taking_one n out out' r c' d =
      let small = nat_lt (length out) 512 in
      let long = nat_lt 255 (length n) in
      ⊎_elim
      (λ q. leaving _ c' es (d.2 ∙ cond-true (small || long) _ _ (or_left _ _ q)) k (refused_take n out out' SmallBuffer (ap (taking n out out') (d.0 ∙ cond-true small _ _ q)) refl))
      (λ fits. ⊎_elim
      (λ q. leaving _ c' es (d.2 ∙ cond-true (small || long) _ _ (or_right _ _ q)) k
      (refused_take n out out' LongEntry (ap (taking n out out') (d.0 ∙ (cond-false small _ _ fits ∙ cond-true long _ _ q))) refl))
      (λ q. leaving _ c' (taken p n es) (d.2 ∙ cond-false (small || long) _ _ (or_from _ _ fits q))
      (kept_rest names tokens es k p n (tokens_of n es) w (ltb-false 255 (length n) q) refl)
      (answered n out out' _ (handed_out p n es) refl (ap (taking n out out') (d.0 ∙ (cond-false small _ _ fits ∙ cond-false long _ _ q)))
      (d.1 ∙ cond-false (small || long) _ _ (or_from _ _ fits q))))
      (cases_Bool long))
      (cases_Bool small)

  pub leaves : (call : Call) (c' : Cache) → Does p (at es) call c' → Leaving call c'
  leaves (insertion n t r) c' d = inserting n t r c' d
  leaves (taking n out out' r) c' d = taking_one n out out' r c' d
