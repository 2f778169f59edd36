-- The log's run over four periods.
use Rattle.std.proofs.Common.{◌≡◌, ℕ, List, [], ◌∷◌, map, Ok, Err, sym, refl, ap, ◌∙◌, lit<, lit≤}
use Rattle.answers.specs.declared.FilterCause.TheVariants.{Held}
use Rattle.answers.specs.Successions.{Each}
use Rattle.answers.specs.Successions.Succession.{new, then}
use Rattle.filter.specs.Histories.{Says, set_says}
use Rattle.filter.specs.SetLaws.{records_set, emptied_set}
use Rattle.token_log.specs.declared.two_generations.TwoGenerationLog.{TwoGenerationLog}
use Rattle.token_log.specs.Generations.{HandsOn, Anew, Logs}
use Rattle.token_log.specs.Generations.Logs.{before, in_one, in_two, next, afresh}
use Rattle.token_log.specs.Log.{Query, Answer}
use Rattle.token_log.specs.Successions.{Call, Leads}
use Rattle.token_log.specs.Machine.{machine_answer, periods_after}
use Rattle.token_log.proofs.Starts.{sets_answer}
use Rattle.worked_examples.specs.Memory.{periods, answers, TheLogsRun, four_record, four_empty, unused, called}

-- the machine's answers to calls, the newest first
abbrev answers_to : Says → List Query → List Answer
answers_to says [] = []
answers_to says (x ∷ xs) = machine_answer says (periods_after says xs) x ∷ answers_to says xs

answered : (says : Says) (ks : List Call) → Each (λ k earlier. k.answer ≡ machine_answer says (periods_after says (map (λ e. e.query) earlier)) k.query) ks
    → map (λ k. k.answer) ks ≡ answers_to says (map (λ k. k.query) ks)
answered says [] e = refl
answered says (k ∷ ks) e = ap (λ a. a ∷ map (λ z. z.answer) ks) e.0 ∙ ap (λ zs. machine_answer says (periods_after says (map (λ z. z.query) ks)) k.query ∷ zs) (answered says ks e.1)

four : answers_to (set_says 4) periods ≡ answers
four = refl

pub run : TheLogsRun
run one two s s' ks a b begun asked l =
    let law = sets_answer one two (b ∙ sym a) s begun s' ks l in
    answered (set_says one.capacity) ks law ∙ ap (λ c. answers_to (set_says c) (map (λ k. k.query) ks)) a ∙ ap (answers_to (set_says 4)) asked ∙ four

-- ---- these calls do get these answers

-- a fingerprint that a set takes as its first, one that it holds, and one that it takes after it was emptied
first : (f : ℕ) → HandsOn four_record [] f (Ok tt) (f ∷ [])
first f = record { reply = Ok tt; records = records_set [] (f ∷ []) 4 f (Ok tt) (lit≤ tt) refl refl; answer = refl }

anew : (xs : List ℕ) (f : ℕ) → Anew four_record four_empty xs f (Ok tt) (f ∷ [])
anew xs f = record { between = []; emptied = emptied_set xs [] 4 (lit< tt) refl; recorded = first f }

-- the log from a period start, with what its generations hold
abbrev log : ℕ → List ℕ → List ℕ → TwoGenerationLog (List ℕ)
log start one two = record { period_start = start; one = one; two = two }

pub occurs : (last : TwoGenerationLog (List ℕ)) × Leads (Logs four_record four_empty) unused (called periods answers) last
occurs = (
  log 1050000000000 [] (11 ∷ []),
  then {s' = log 1050000000000 [] (11 ∷ [])}
      (then {s' = log 1020000000000 (9 ∷ []) (10 ∷ [])}
      (then {s' = log 1020000000000 (9 ∷ []) (10 ∷ [])}
      (then {s' = log 1010000000000 (7 ∷ []) (9 ∷ [])}
      (then {s' = log 1000000000000 (8 ∷ []) (7 ∷ [])}
      (then {s' = log 1000000000000 (8 ∷ []) (7 ∷ [])}
      (then {s' = log 1000000000000 [] (7 ∷ [])}
      (then {s' = unused} new
      (afresh (lit< tt) (lit≤ tt) refl (emptied_set [] [] 4 (lit< tt) refl) (anew [] 7)))
      (in_one (lit≤ tt) (lit< tt) refl (first 8) refl))
      (in_two (lit≤ tt) (lit< tt) refl refl (record { reply = Err Held; records = records_set (7 ∷ []) (7 ∷ []) 4 7 (Err Held) (lit≤ tt) refl refl; answer = refl })))
      (next (lit≤ tt) (lit< tt) refl refl (anew (8 ∷ []) 9)))
      (next (lit≤ tt) (lit< tt) refl refl (anew (7 ∷ []) 10)))
      (in_one (lit≤ tt) (lit< tt) refl (record { reply = Err Held; records = records_set (9 ∷ []) (9 ∷ []) 4 9 (Err Held) (lit≤ tt) refl refl; answer = refl }) refl))
      (afresh (lit< tt) (lit≤ tt) refl (emptied_set (9 ∷ []) [] 4 (lit< tt) refl) (anew (10 ∷ []) 11)))
      (before (lit< tt) (lit< tt) refl refl),
)
