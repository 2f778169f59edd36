-- A token is taken only as often as it was stored: what is held was stored, and not handed out since.
use Rattle.std.proofs.Common.{◌≡◌, ℕ, Bool, true, false, ◌&&◌, ◌⊎◌, List, [], ◌∷◌, length, take, drop, Option, Result, sym, refl, ap, ◌∙◌, inl, inr, ⊎_elim}
use Rattle.std.specs.Str.{bytes_eq}
use Rattle.std.proofs.lemmas.Bool.{false≢true, and_parts, and_from, and_right, cond-true, cond-false, cases_Bool}
use Rattle.std.proofs.lemmas.List.{take_at}
use Rattle.std.proofs.lemmas.Slice.Eq.{bytes_eq-Decides}
use Rattle.answers.specs.declared.Refusal.{Refusal}
use Rattle.answers.specs.Buffers.{fronted}
use Rattle.token_store.specs.Store.{Bytes, Holds, Stores, Takes}
use Rattle.token_store.specs.Store.Stores.{long_entry, inserts}
use Rattle.token_store.specs.Store.Takes.{small, long_name, none, some}
use Rattle.token_store.specs.Laws.{Call, Step, HoldsNothing, EveryCallAdds, handed, takes, stores, preceded, OnlyAsStored}
use Rattle.token_store.specs.Laws.Call.{insertion, taking}
use Rattle.answers.specs.Successions.{Succession}
use Rattle.answers.specs.Successions.Succession.{new, then}

-- what an answer hands out is the token that was written to the front of the buffer
handed_is : (m v out out' n t : Bytes) → out' ≡ fronted v out → (bytes_eq n m && bytes_eq t (take (length v) out')) ≡ true → (n ≡ m) × (t ≡ v)
handed_is m v out out' n t e k =
    let p = and_parts _ _ k in
    ((bytes_eq-Decides n m).0 p.0, (bytes_eq-Decides t _).0 p.1 ∙ ap (take (length v)) e ∙ take_at v (drop (length v) out) (length v) refl)

never : {X : Type 0} (b : Bool) → (b && false) ≡ true → X
never b k = absurd (false≢true (and_parts _ _ k).1)

module _ {S : Type 0} (holds : S → Holds) (s s' : S) where
  abbrev h : Holds
  h = holds s

  abbrev h' : Holds
  h' = holds s'

  -- what a take hands out was held
  took : (m out out' : Bytes) (r : Result (Option ℕ) Refusal) → Takes m out out' h h' r → (n t : Bytes) → (bytes_eq n m && handed t out' r) ≡ true → h n t ≡ true
  took m out out' r (small a b d) n t k = never _ k
  took m out out' r (long_name a b d e) n t k = never _ k
  took m out out' r (none a b d e) n t k = never _ k
  took m out out' r (some a b v l e w) n t k = let p = handed_is m v out out' n t e k in rw (p.0, p.1) w.held

  given : (x : Call) → Step holds s x s' → (n t : Bytes) → takes n t x ≡ true → h n t ≡ true
  given (insertion m u r) w n t k = absurd (false≢true k)
  given (taking m out out' r) w n t k = took m out out' r w n t k

  -- what is held after a take was held before, and is not what it handed out
  kept_by_take : (m out out' : Bytes) (r : Result (Option ℕ) Refusal) → Takes m out out' h h' r → (n t : Bytes) → h' n t ≡ true
      → ((bytes_eq n m && handed t out' r) ≡ false) × (h n t ≡ true)
  kept_by_take m out out' r (small a b d) n t k = (and_right _ _ refl, sym (d n t) ∙ k)
  kept_by_take m out out' r (long_name a b d e) n t k = (and_right _ _ refl, sym (e n t) ∙ k)
  kept_by_take m out out' r (none a b d e) n t k = (and_right _ _ refl, sym (e n t) ∙ k)
  kept_by_take m out out' r (some a b v l e w) n t k =
      let gone : (n ≡ m) → (t ≡ v) → ⊥ = λ x y. false≢true (sym w.gone ∙ rw (x, y) at k) in
      (⊎_elim (λ q. let p = handed_is m v out out' n t e q in absurd (gone p.0 p.1)) (λ q. q) (cases_Bool _), sym (w.others n t gone) ∙ k)

  -- what is held after a call was stored by it, or was held before and not handed out by it
  kept : (x : Call) → Step holds s x s' → (n t : Bytes) → h' n t ≡ true → (stores n t x ≡ true) ⊎ ((takes n t x ≡ false) × (h n t ≡ true))
  kept (insertion m u r) (long_entry p a) n t k = inr (refl, sym (a n t) ∙ k)
  kept (insertion m u r) (inserts p q i) n t k =
      ⊎_elim (λ y. inr (refl, y)) (λ y. inl (and_from _ _ (and_from _ _ ((bytes_eq-Decides n m).1 y.0) ((bytes_eq-Decides t u).1 y.1)) refl)) (i n t k)
  kept (taking m out out' r) w n t k = inr (kept_by_take m out out' r w n t k)

preceded_more : (n t : Bytes) (x : Call) (xs : List Call) → (stores n t x ≡ true) ⊎ ((takes n t x ≡ false) × (preceded n t xs ≡ true)) → preceded n t (x ∷ xs) ≡ true
preceded_more n t x xs (inl s) = cond-true _ _ _ s
preceded_more n t x xs (inr s) = ⊎_elim (λ b. cond-true _ _ _ b) (λ b. cond-false _ _ _ b ∙ cond-false _ _ _ s.0 ∙ s.1) (cases_Bool (stores n t x))

module _ {S : Type 0} (holds : S → Holds) (start : S) (nothing : HoldsNothing holds start) where
  held-preceded : (xs : List Call) (s : S) → Succession (Step holds) start xs s → (n t : Bytes) → holds s n t ≡ true → preceded n t xs ≡ true
  held-preceded [] s (new) n t k = absurd (false≢true (sym (nothing n t) ∙ k))
  held-preceded (x ∷ xs) s' (then {s' = s} r w) n t k =
      preceded_more n t x xs (⊎_elim inl (λ p. inr (p.0, held-preceded xs s r n t p.1)) (kept holds s s' x w n t k))

  pub only_as_stored : (s : S) (xs : List Call) → Succession (Step holds) start xs s → OnlyAsStored xs
  only_as_stored s [] r = tt
  only_as_stored s' (x ∷ xs) (then {s' = s} r w) = ((λ n t k. held-preceded xs s r n t (given holds s s' x w n t k)), only_as_stored s xs r)

-- a call that is a step adds to every succession
pub every_call_adds : {S : Type 0} (holds : S → Holds) → EveryCallAdds holds
every_call_adds holds = record { inserts = λ s s' n t r step start xs before. then before step; takes = λ s s' n out out' r step start xs before. then before step }
