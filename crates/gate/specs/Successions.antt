-- What one call does to a gate, and successions of calls, the newest first.
use Rattle.std.specs.Prelude.{◌≡◌, ℕ, List, Ok, Err, Result}
use Rattle.answers.specs.declared.Refusal.{Refusal}
use Rattle.answers.specs.Successions.{Succession}
use Rattle.sealing.specs.Sealing.{Image, Opening}
use Rattle.token_log.specs.Log.{Query, Answer}
use Rattle.gate.specs.declared.Gate.{Gate}
use Rattle.gate.specs.declared.verdict.Verdict.{Verdict}
use Rattle.gate.specs.Calls.{Judged, Terms, Issue, FitsIssue, Arrival, token_issued, judge, decided}
use Rattle.gate.specs.Calls.Judged.{settled, asks}

-- a call: what it brought, and what it was answered
pub data Call : Type 0 where
  issuing : Issue → Result (List ℕ) Refusal → Call
  arriving : Arrival → Result Verdict Refusal → Call

-- one call, by the account R that a log gives of each query: the log goes from s to s'
module _ {L : Type 0} (R : L → Query → Answer → L → Type 0) (t : Terms) where
  -- an arrival with this destination id, by what it alone decides
  abbrev pub Follows : List ℕ → Result Judged Refusal → Result Verdict Refusal → L → L → Type 0
  Follows destination (Err refusal) r s s' = (r ≡ Err refusal) × (s' ≡ s)
  Follows destination (Ok (settled o)) r s s' = (r ≡ Ok o) × (s' ≡ s)
  Follows destination (Ok (asks low seconds)) r s s' =
      (answer : Answer) × R s (record { low = low; issued = seconds; lifetime = t.validation }) answer s' × (r ≡ Ok (decided destination answer))

  abbrev pub Moves : L → Call → L → Type 0
  Moves s (issuing x r) s' = FitsIssue x × (r ≡ token_issued t x) × (s' ≡ s)
  Moves s (arriving x r) s' = Follows x.destination (judge t x) r s s'

-- the terms of a gate
abbrev pub terms : {S L : Type 0} → (S → Image) → (S → Opening) → Gate S L → Terms
terms image opened g = record { image = image g.scheme; opened = opened g.scheme; retry = g.retry; validation = g.validation }

-- scheme and lifetimes are as they were
pub record Unmoved {S L : Type 0} (g g' : Gate S L) : Type 0 where
  pub scheme : g'.scheme ≡ g.scheme
  pub retry : g'.retry ≡ g.retry
  pub validation : g'.validation ≡ g.validation

-- one call on a gate: its log moves so, and nothing else
abbrev pub Step : {S L : Type 0} → (S → Image) → (S → Opening) → (L → Query → Answer → L → Type 0) → Gate S L → Call → Gate S L → Type 0
Step image opened R g x g' = Unmoved g g' × Moves R (terms image opened g) g.log x g'.log

-- calls that lead from one gate to another
abbrev pub Leads : {S L : Type 0} → (S → Image) → (S → Opening) → (L → Query → Answer → L → Type 0) → Gate S L → List Call → Gate S L → Type 0
Leads image opened R = Succession (Step image opened R)
