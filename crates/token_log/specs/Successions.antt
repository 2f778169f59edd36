-- Calls on a log, and successions of them, the newest first.
use Rattle.std.specs.Prelude.{◌≡◌, ℕ, List}
use Rattle.std.specs.List.{AllByRecursion}
use Rattle.answers.specs.Successions.{Succession}
use Rattle.token_log.specs.Log.{Query, Answer}

-- a call: what it asked, and what it was answered
pub record Call : Type 0 where
  pub query : Query
  pub answer : Answer

-- one call, by the account R that the log gives of it
abbrev pub Step : {L : Type 0} → (L → Query → Answer → L → Type 0) → L → Call → L → Type 0
Step R s k s' = R s k.query k.answer s'

-- calls that lead from one log to another
abbrev pub Leads : {L : Type 0} → (L → Query → Answer → L → Type 0) → L → List Call → L → Type 0
Leads R = Succession (Step R)

-- each of them with the lifetime t
abbrev pub Under : ℕ → List Call → Type 0
Under t ks = AllByRecursion (λ k. k.query.lifetime ≡ t) ks
