-- The answers of a gate whose log runs as a machine on plain values: a function of what the calls brought.
use Rattle.std.specs.Prelude.{◌≡◌, ℕ, List, [], ◌∷◌, Ok, Err, Result}
use Rattle.answers.specs.declared.Refusal.{Refusal}
use Rattle.answers.specs.Successions.{Each}
use Rattle.filter.specs.Histories.{Says}
use Rattle.sealing.specs.Sealing.{Image, Opening}
use Rattle.token_log.specs.Log.{Query, Answer}
use Rattle.token_log.specs.Machine.{Periods, unused_periods, machine_answer, machine_after, AnswersAsItsMachine}
use Rattle.gate.specs.declared.Gate.{Gate}
use Rattle.gate.specs.declared.verdict.Verdict.{Verdict}
use Rattle.gate.specs.Calls.{Judged, Terms, token_issued, judge, decided}
use Rattle.gate.specs.Calls.Judged.{settled, asks}
use Rattle.gate.specs.Successions.{Call, terms, Leads}
use Rattle.gate.specs.Successions.Call.{issuing, arriving}

module _ (t : Terms) (says : Says) where
  -- what an arrival asks of the log
  abbrev pub asking : ℕ → ℕ → Query
  asking low seconds = record { low = low; issued = seconds; lifetime = t.validation }

  -- the verdict of an arrival with this destination id, by what it alone decides and what the log has recorded
  abbrev pub verdict_by : Periods → List ℕ → Result Judged Refusal → Result Verdict Refusal
  verdict_by p destination (Err refusal) = Err refusal
  verdict_by p destination (Ok (settled verdict)) = Ok verdict
  verdict_by p destination (Ok (asks low seconds)) = Ok (decided destination (machine_answer says p (asking low seconds)))

  -- what the log has recorded then
  abbrev pub judged_after : Periods → Result Judged Refusal → Periods
  judged_after p (Err refusal) = p
  judged_after p (Ok (settled verdict)) = p
  judged_after p (Ok (asks low seconds)) = machine_after says p (asking low seconds)

  -- after calls of the gate, the newest first
  abbrev pub recorded_after : List Call → Periods
  recorded_after [] = unused_periods
  recorded_after (issuing x r ∷ xs) = recorded_after xs
  recorded_after (arriving x r ∷ xs) = judged_after (recorded_after xs) (judge t x)

  -- a call's answer is the one that what the calls brought gives
  abbrev pub AnsweredByMachine : Call → List Call → Type 0
  AnsweredByMachine (issuing x r) earlier = r ≡ token_issued t x
  AnsweredByMachine (arriving x r) earlier = r ≡ verdict_by (recorded_after earlier) x.destination (judge t x)

-- every succession of calls from a gate on gets exactly these answers
abbrev pub EveryVerdictIsItsMachines : {S L : Type 0} → (S → Image) → (S → Opening) → (L → Query → Answer → L → Type 0) → Says → Gate S L → Gate S L → Type 0
EveryVerdictIsItsMachines image opened R says start g =
    (xs : List Call) → Leads image opened R start xs g → Each (AnsweredByMachine (terms image opened g) says) xs

-- where the log's answers are those of a machine, so are the gate's
abbrev pub AGateAnswersAsItsLog : {S L : Type 0} → (S → Image) → (S → Opening) → (L → Query → Answer → L → Type 0) → Gate S L → Type 0
AGateAnswersAsItsLog {S = S} {L = L} image opened R g =
    (says : Says) (start : Gate S L) → AnswersAsItsMachine R says start.log → EveryVerdictIsItsMachines image opened R says start g
