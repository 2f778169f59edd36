-- The log of two generations as a machine on plain values: where the period starts, and which low halves each generation
-- recorded since it was emptied, the first one first.
use Rattle.std.specs.Prelude.{◌≡◌, ℕ, ◌+◌, ◌*◌, if◌then◌else◌, List, [], ◌∷◌, map, Err, ◌==◌, nat_lt}
use Rattle.answers.specs.declared.LogCause.TheVariants.{ZeroLifetime, BeforePeriod}
use Rattle.answers.specs.Successions.{Each}
use Rattle.filter.specs.Histories.{Says, recorded_with}
use Rattle.token_log.specs.Log.{Query, Answer, raised, issue, expiry}
use Rattle.token_log.specs.Successions.{Call, Leads}

pub record Periods : Type 0 where
  pub start : ℕ
  pub one : List ℕ
  pub two : List ℕ

abbrev pub unused_periods : Periods
unused_periods = record { start = 0; one = []; two = [] }

-- where a call belongs
pub data Place : Type 0 where
  no_lifetime : Place
  before_period : Place
  generation_one : Place
  generation_two : Place
  next_period : Place
  afresh : Place

-- by the lifetime L, the expiry e and the period start: L is zero; e is before the start; e lies less than L past it; less
-- than 2 L; less than 3 L; or further
abbrev pub place_of : ℕ → ℕ → ℕ → Place
place_of l e start =
    if l == 0 then no_lifetime else (if nat_lt e start then before_period else (if nat_lt e (start + l) then generation_one
    else (if nat_lt e (start + 2 * l) then generation_two else (if nat_lt e (start + 3 * l) then next_period else afresh))))

-- a generation answers by what it recorded, and an emptied one by nothing
abbrev pub answer_at : Place → Says → Periods → Query → Answer
answer_at no_lifetime says p x = Err ZeroLifetime
answer_at before_period says p x = Err BeforePeriod
answer_at generation_one says p x = raised (says p.one x.low)
answer_at generation_two says p x = raised (says p.two x.low)
answer_at next_period says p x = raised (says [] x.low)
answer_at afresh says p x = raised (says [] x.low)

-- the generation that answers records what it accepts; in the next period generation two becomes one, and afresh both are
-- emptied
abbrev pub after_at : Place → Says → Periods → Query → Periods
after_at no_lifetime says p x = p
after_at before_period says p x = p
after_at generation_one says p x = record { start = p.start; one = recorded_with says p.one x.low; two = p.two }
after_at generation_two says p x = record { start = p.start; one = p.one; two = recorded_with says p.two x.low }
after_at next_period says p x = record { start = p.start + x.lifetime; one = p.two; two = recorded_with says [] x.low }
after_at afresh says p x = record { start = issue x.issued; one = []; two = recorded_with says [] x.low }

abbrev pub place_in : Periods → Query → Place
place_in p x = place_of x.lifetime (expiry x.lifetime x.issued) p.start

abbrev pub machine_answer : Says → Periods → Query → Answer
machine_answer says p x = answer_at (place_in p x) says p x

abbrev pub machine_after : Says → Periods → Query → Periods
machine_after says p x = after_at (place_in p x) says p x

-- after calls from an unused log on, the newest first
abbrev pub periods_after : Says → List Query → Periods
periods_after says [] = unused_periods
periods_after says (x ∷ xs) = machine_after says (periods_after says xs) x

-- by the account R that a log gives of each call: every succession of calls from the log s on, with any lifetimes, gets
-- exactly the answers of the machine
abbrev pub AnswersAsItsMachine : {L : Type 0} → (L → Query → Answer → L → Type 0) → Says → L → Type 0
AnswersAsItsMachine {L} R says s =
    (s' : L) (ks : List Call) → Leads R s ks s' → Each (λ k earlier. k.answer ≡ machine_answer says (periods_after says (map (λ e. e.query) earlier)) k.query) ks
