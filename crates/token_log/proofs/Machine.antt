-- The log of two generations runs as its machine, over filters that answer by what they recorded.
use Rattle.std.proofs.Common.{◌≡◌, ℕ, ◌+◌, ◌*◌, ◌<◌, ◌≤◌, List, [], ◌∷◌, map, sym, ap, ◌∙◌, subst, arith}
use Rattle.std.proofs.lemmas.Bool.{eq-eqb, ne_eqb, lt-ltb, le-ltb, cond-true, cond-false}
use Rattle.answers.specs.Successions.{Each}
use Rattle.answers.specs.Successions.Succession.{new, then}
use Rattle.filter.specs.Filter.{Answer as Reply}
use Rattle.filter.specs.Histories.{Says, recorded_with}
use Rattle.filter.proofs.Going.{GoesBy}
use Rattle.token_log.specs.declared.two_generations.TwoGenerationLog.{TwoGenerationLog}
use Rattle.token_log.specs.Log.{Query, Answer, raised, expiry}
use Rattle.token_log.specs.Successions.{Call, Leads}
use Rattle.token_log.specs.Generations.{HandsOn, Anew, Logs}
use Rattle.token_log.specs.Generations.Logs.{never, before, in_one, in_two, next, afresh}
use Rattle.token_log.specs.Machine.{Periods, unused_periods, Place, place_of, answer_at, after_at, place_in, machine_answer, machine_after, periods_after, AnswersAsItsMachine}
use Rattle.token_log.specs.Machine.Place.{no_lifetime, before_period, generation_one, generation_two, next_period, afresh as afresh_place}

-- where a call belongs, by where its expiry lies
module _ (l e start : ℕ) where
  at_none : l ≡ 0 → place_of l e start ≡ no_lifetime
  at_none h = cond-true _ _ _ (eq-eqb l 0 h)

  at_before : 0 < l → e < start → place_of l e start ≡ before_period
  at_before h b = cond-false _ _ _ (ne_eqb l 0 (λ z. omega arith)) ∙ cond-true _ _ _ (lt-ltb e start b)

  at_one : start ≤ e → e < start + l → place_of l e start ≡ generation_one
  at_one a b = cond-false _ _ _ (ne_eqb l 0 (λ z. omega arith)) ∙ cond-false _ _ _ (le-ltb e start a) ∙ cond-true _ _ _ (lt-ltb e (start + l) b)

  at_two : start + l ≤ e → e < start + 2 * l → place_of l e start ≡ generation_two
  at_two a b =
      cond-false _ _ _ (ne_eqb l 0 (λ z. omega arith)) ∙ cond-false _ _ _ (le-ltb e start (omega arith)) ∙ cond-false _ _ _ (le-ltb e (start + l) a)
      ∙ cond-true _ _ _ (lt-ltb e (start + 2 * l) b)

  at_next : start + 2 * l ≤ e → e < start + 3 * l → place_of l e start ≡ next_period
  at_next a b =
      cond-false _ _ _ (ne_eqb l 0 (λ z. omega arith)) ∙ cond-false _ _ _ (le-ltb e start (omega arith)) ∙ cond-false _ _ _ (le-ltb e (start + l) (omega arith))
      ∙ cond-false _ _ _ (le-ltb e (start + 2 * l) a) ∙ cond-true _ _ _ (lt-ltb e (start + 3 * l) b)

  at_afresh : 0 < l → start + 3 * l ≤ e → place_of l e start ≡ afresh_place
  at_afresh h a =
      cond-false _ _ _ (ne_eqb l 0 (λ z. omega arith)) ∙ cond-false _ _ _ (le-ltb e start (omega arith)) ∙ cond-false _ _ _ (le-ltb e (start + l) (omega arith))
      ∙ cond-false _ _ _ (le-ltb e (start + 2 * l) (omega arith)) ∙ cond-false _ _ _ (le-ltb e (start + 3 * l) a)

-- where `Is s p` says that the log s stands as the machine at p: each call gets the machine's answer, and leaves the log
-- standing as the machine does then
pub record RunsAs {L : Type 0} (R : L → Query → Answer → L → Type 0) (says : Says) (Is : L → Periods → Type 0) : Type 0 where
  pub asked : (s s' : L) (p : Periods) (x : Query) (r : Answer) → Is s p → R s x r s' → (r ≡ machine_answer says p x) × Is s' (machine_after says p x)

-- a log stands as the machine: its period start, and what each of its filters recorded
pub record Stands {F : Type 0} (Has : F → List ℕ → Type 0) (s : TwoGenerationLog F) (p : Periods) : Type 0 where
  pub start : s.period_start ≡ p.start
  pub one : Has s.one p.one
  pub two : Has s.two p.two

module _ {F : Type 0} (R : F → ℕ → Reply → F → Type 0) (E : F → F → Type 0) (says : Says) (Has : F → List ℕ → Type 0) (goes : GoesBy R E says Has) where
  -- at the place that the call has
  Moved : TwoGenerationLog F → Periods → Query → Answer → Place → Type 0
  Moved s' p x r w = (r ≡ answer_at w says p x) × Stands Has s' (after_at w says p x)

  handed : (a a' : F) (xs : List ℕ) (f : ℕ) (r : Answer) → Has a xs → HandsOn R a f r a' → (r ≡ raised (says xs f)) × Has a' (recorded_with says xs f)
  handed a a' xs f r h w = let g = goes.recorded a a' xs f w.reply h w.records in (w.answer ∙ ap raised g.0, g.1)

  anew : (a a' : F) (xs : List ℕ) (f : ℕ) (r : Answer) → Has a xs → Anew R E a f r a' → (r ≡ raised (says [] f)) × Has a' (recorded_with says [] f)
  anew a a' xs f r h w = handed w.between a' [] f r (goes.emptied a w.between xs h w.emptied) w.recorded

  stays : (s s' : TwoGenerationLog F) (p : Periods) → Stands Has s p → s' ≡ s → Stands Has s' p
  stays s s' p h e = subst (λ (z : TwoGenerationLog F). Stands Has z p) (sym e) h

  moves : (s s' : TwoGenerationLog F) (p : Periods) (x : Query) (r : Answer) → Stands Has s p → Logs R E s x r s'
      → (w : Place) × (place_of x.lifetime (expiry x.lifetime x.issued) s.period_start ≡ w) × Moved s' p x r w
  unfolding Moved
  moves s s' p x r h (never z a e) = (no_lifetime, at_none x.lifetime (expiry x.lifetime x.issued) s.period_start z, (a, stays s s' p h e))
  moves s s' p x r h (before z b a e) = (before_period, at_before _ _ _ z b, (a, stays s s' p h e))
  moves s s' p x r h (in_one a b e w o) =
      let g = handed s.one s'.one p.one x.low r h.one w in
      (generation_one, at_one _ _ _ a b, (g.0, record { start = e ∙ h.start; one = g.1; two = subst (λ (z : F). Has z p.two) (sym o) h.two }))
  moves s s' p x r h (in_two a b e o w) =
      let g = handed s.two s'.two p.two x.low r h.two w in
      (generation_two, at_two _ _ _ a b, (g.0, record { start = e ∙ h.start; one = subst (λ (z : F). Has z p.one) (sym o) h.one; two = g.1 }))
  moves s s' p x r h (next a b e o w) =
      let g = anew s.one s'.two p.one x.low r h.one w in (
        next_period,
        at_next _ _ _ a b,
        (
          g.0,
          record {
            start = e ∙ ap (λ z. z + x.lifetime) h.start;
            one = subst (λ (z : F). Has z p.two) (sym o) h.two;
            two = g.1;
          },
        ),
      )
  moves s s' p x r h (afresh z a e o w) =
      let g = anew s.two s'.two p.two x.low r h.two w in
      (afresh_place, at_afresh _ _ _ z a, (g.0, record { start = e; one = goes.emptied s.one s'.one p.one h.one o; two = g.1 }))

  pub log_runs : RunsAs (Logs R E) says (Stands Has)
  unfolding Moved
  log_runs = record {
    asked = λ s s' p x r h w.
        let m = moves s s' p x r h w in
        let at : place_in p x ≡ m.0 = ap (λ z. place_of x.lifetime (expiry x.lifetime x.issued) z) (sym h.start) ∙ m.1 in
        subst (λ (q : Place). (r ≡ answer_at q says p x) × Stands Has s' (after_at q says p x)) (sym at) m.2;
  }

-- a succession of calls
module _ {L : Type 0} (R : L → Query → Answer → L → Type 0) (says : Says) (Is : L → Periods → Type 0) (runs : RunsAs R says Is) where
  pub stood : (s s' : L) (ks : List Call) → Is s unused_periods → Leads R s ks s'
      → Is s' (periods_after says (map (λ e. e.query) ks)) × Each (λ k earlier. k.answer ≡ machine_answer says (periods_after says (map (λ e. e.query) earlier)) k.query) ks
  stood s s' [] h new = (h, tt)
  stood s s'' (k ∷ ks) h (then {s' = s'} w v) =
      let before = stood s s' ks h w in
      let g = runs.asked s' s'' (periods_after says (map (λ e. e.query) ks)) k.query k.answer before.0 v in
      (g.1, (g.0, before.1))

  pub answers_as_machine : (s : L) → Is s unused_periods → AnswersAsItsMachine R says s
  answers_as_machine s h s' ks w = (stood s s' ks h w).1
