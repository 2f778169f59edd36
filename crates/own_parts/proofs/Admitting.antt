-- The first token that a gate issues is honoured.
use Rattle.std.proofs.Common.{◌≡◌, ℕ, ◌<◌, ◌≤◌, true, List, [], ◌∷◌, is_ok, Ok, Result, ap, inl, inr, arith}
use Rattle.std.proofs.lemmas.Bool.{false≢true}
use Rattle.answers.specs.declared.Refusal.{Refusal}
use Rattle.token_log.specs.Log.{expiry}
use Rattle.gate.specs.declared.verdict.Verdict.{Verdict}
use Rattle.gate.specs.Calls.{Terms, Issue, Arrival, second}
use Rattle.gate.specs.Successions.Call.{issuing, arriving}
use Rattle.answers.specs.Successions.{Each}
use Rattle.gate.specs.Laws.{Met, Stands, honours}
use Rattle.gate.specs.Laws.Stands.{is_honoured, low_taken, time_passed, sure_spent}

-- after one issue none of the exceptions can be
stands : (c : ℕ) (t : Terms) (low time : ℕ) (r : Result Verdict Refusal) (i : Issue) (w : Result (List ℕ) Refusal) → 0 < c → Stands c t low time r (issuing i w ∷ [])
    → honours r ≡ true
stands c t low time r i w p (is_honoured h) = h
stands c t low time r i w p (low_taken (inl e)) = absurd (false≢true e.taken)
stands c t low time r i w p (low_taken (inr e)) = absurd e
stands c t low time r i w p (time_passed (inl e)) = absurd (false≢true e.taken)
stands c t low time r i w p (time_passed (inr e)) = absurd e
stands c t low time r i w p (sure_spent h) = absurd (omega arith)

pub admitted : (c : ℕ) (t : Terms) (i : Issue) (x : Arrival) (w : Result (List ℕ) Refusal) (r : Result Verdict Refusal) → 0 < c
    → Each (Met c t) (arriving x r ∷ issuing i w ∷ []) → is_ok r ≡ true → w ≡ Ok x.token → i.ip ≡ x.address.ip → x.clock ≤ expiry t.validation (second i.clock) → honours r ≡ true
admitted c t i x w r p e ok same ip date =
    stands c t _ _ r i w p (e.0 i (record { verdict = ok; issue = inl (ap (issuing i) same); ip = ip; date = date }))
