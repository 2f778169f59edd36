-- No pair is accepted twice, of any log.
use Rattle.std.proofs.Common.{◌≡◌, ℕ, Bool, true, false, not, List, [], ◌∷◌, is_ok, sym, refl, ◌∙◌, subst, ⊎_elim}
use Rattle.std.proofs.lemmas.Bool.{true≢false, false≢true, cases_Bool}
use Rattle.answers.specs.Successions.Succession.{then}
use Rattle.token_log.specs.Log.{Bars, Query, Answer, Answered}
use Rattle.token_log.specs.Successions.{Call, Leads, Under}
use Rattle.token_log.specs.Laws.{Unasked, EachOnce}

module _ {L : Type 0} (R : L → Query → Answer → L → Type 0) (bars : L → Bars)
    (tied : (s s' : L) (x : Query) (r : Answer) → R s x r s' → Answered x (is_ok r) (bars s) (bars s')) (t : ℕ) where
  -- a call under t, told by what t bars
  told : (s s' : L) (k : Call) → k.query.lifetime ≡ t → R s k.query k.answer s'
      → Answered (record { low = k.query.low; issued = k.query.issued; lifetime = t }) (is_ok k.answer) (bars s) (bars s')
  told s s' k e w =
      let P : ℕ → Type 0 = λ z. Answered (record { low = k.query.low; issued = k.query.issued; lifetime = z }) (is_ok k.answer) (bars s) (bars s') in
      subst P e (tied s s' k.query k.answer w)

  -- what is not barred was not accepted before
  unasked : (ks : List Call) (s s' : L) (low issued : ℕ) → Leads R s ks s' → Under t ks → bars s' t low issued ≡ false → Unasked low issued ks
  unasked [] s s' low issued w u b = tt
  unasked (k ∷ ks) s s'' low issued (then {s' = s'} w v) u b =
      let a = told s' s'' k u.0 v in
      let earlier : bars s' t low issued ≡ false =
      ⊎_elim (λ y. absurd (false≢true (sym b ∙ ⊎_elim (λ z. a.kept z low issued y) (λ n. a.same n t low issued ∙ y) (cases_Bool (is_ok k.answer))))) (λ n. n)
      (cases_Bool (bars s' t low issued)) in (
        (λ y p q. let e : bars s'' t low issued ≡ true = rw (← p, ← q) (a.barred y) in true≢false (sym e ∙ b)),
        unasked ks s s' low issued w u.1 earlier,
      )

  opposite : (a b : Bool) → a ≡ not b → a ≡ true → b ≡ false
  opposite a true e y = absurd (false≢true (sym e ∙ y))
  opposite a false e y = refl

  pub once : (ks : List Call) (s s' : L) → Leads R s ks s' → Under t ks → EachOnce ks
  once [] s s' w u = tt
  once (k ∷ ks) s s'' (then {s' = s'} w v) u = (
    (λ y. unasked ks s s' k.query.low k.query.issued w u.1 (opposite _ _ (told s' s'' k u.0 v).answer y)),
    once ks s s' w u.1,
  )
