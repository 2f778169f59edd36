-- A gate answers as its log's machine.
use Rattle.std.proofs.Common.{◌≡◌, List, [], ◌∷◌, map, Ok, Err, Result, sym, refl, ap, ◌∙◌, subst}
use Rattle.answers.specs.declared.Refusal.{Refusal}
use Rattle.answers.specs.Successions.{Succession, Each}
use Rattle.answers.specs.Successions.Succession.{new, then}
use Rattle.filter.specs.Histories.{Says}
use Rattle.token_log.specs.Log.{Query, Answer}
use Rattle.token_log.specs.Successions.{Call as Asked, Leads as Logged}
use Rattle.token_log.specs.Machine.{machine_answer, machine_after, periods_after, AnswersAsItsMachine}
use Rattle.gate.specs.declared.verdict.Verdict.{Verdict}
use Rattle.gate.specs.Calls.{Judged, Terms, Arrival, judge, decided}
use Rattle.gate.specs.Calls.Judged.{settled, asks}
use Rattle.gate.specs.Successions.{Call, Follows, Moves}
use Rattle.gate.specs.Successions.Call.{issuing, arriving}
use Rattle.gate.specs.Machine.{asking, verdict_by, judged_after, recorded_after, AnsweredByMachine}

module _ {L : Type 0} (R : L → Query → Answer → L → Type 0) (t : Terms) (says : Says) (s : L) (law : AnswersAsItsMachine R says s) where
  -- the log's calls under those of the gate, and each answer of the gate
  record Under (xs : List Call) (s' : L) : Type 0 where
    calls : List Asked
    leads : Logged R s calls s'
    recorded : periods_after says (map (λ e. e.query) calls) ≡ recorded_after t says xs
    answered : Each (AnsweredByMachine t says) xs

  quiet : (xs : List Call) (x : Call) (s' s'' : L) (u : Under xs s') → s'' ≡ s' → recorded_after t says (x ∷ xs) ≡ recorded_after t says xs → AnsweredByMachine t says x xs → Under (x ∷ xs) s''
  quiet xs x s' s'' u e p a = record {
    calls = u.calls;
    leads = let P : L → Type 0 = λ z. Logged R s u.calls z in subst P (sym e) u.leads;
    recorded = u.recorded ∙ sym p;
    answered = (a, u.answered);
  }

  arrived : (x : Arrival) (r : Result Verdict Refusal) (xs : List Call) (s' s'' : L) (u : Under xs s') (j : Result Judged Refusal) → judge t x ≡ j → Follows R t x.destination j r s' s''
      → Under (arriving x r ∷ xs) s''
  arrived x r xs s' s'' u (Err n) e w =
      quiet xs (arriving x r) s' s'' u w.1 (ap (judged_after t says (recorded_after t says xs)) e) (w.0 ∙ ap (verdict_by t says (recorded_after t says xs) x.destination) (sym e))
  arrived x r xs s' s'' u (Ok (settled v)) e w =
      quiet xs (arriving x r) s' s'' u w.1 (ap (judged_after t says (recorded_after t says xs)) e) (w.0 ∙ ap (verdict_by t says (recorded_after t says xs) x.destination) (sym e))
  arrived x r xs s' s'' u (Ok (asks low seconds)) e w =
      let q : Query = asking t says low seconds in
      let k : Asked = record { query = q; answer = w.0 } in
      let l : Logged R s (k ∷ u.calls) s'' = then u.leads w.1 in
      let a : w.0 ≡ machine_answer says (periods_after says (map (λ z. z.query) u.calls)) q = (law s'' (k ∷ u.calls) l).0 in
      let b : w.0 ≡ machine_answer says (recorded_after t says xs) q = a ∙ ap (λ p. machine_answer says p q) u.recorded in
      record {
        calls = k ∷ u.calls;
        leads = l;
        recorded = ap (λ p. machine_after says p q) u.recorded ∙ sym (ap (judged_after t says (recorded_after t says xs)) e);
        answered = (
          w.2 ∙ ap (λ z. Ok (decided x.destination z)) b ∙ ap (verdict_by t says (recorded_after t says xs) x.destination) (sym e),
          u.answered,
        );
      }

  under : (xs : List Call) (s' : L) → Succession (Moves R t) s xs s' → Under xs s'
  under [] s' new = record { calls = []; leads = new; recorded = refl; answered = tt }
  under (issuing x r ∷ xs) s'' (then {s' = s'} l w) = quiet xs (issuing x r) s' s'' (under xs s' l) w.2 refl w.1
  under (arriving x r ∷ xs) s'' (then {s' = s'} l w) = arrived x r xs s' s'' (under xs s' l) (judge t x) refl w

  pub by_machine : (xs : List Call) (s' : L) → Succession (Moves R t) s xs s' → Each (AnsweredByMachine t says) xs
  by_machine xs s' l = (under xs s' l).answered
