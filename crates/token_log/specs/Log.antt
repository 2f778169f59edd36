-- What a log of used tokens means, and what one call does to that.
use Rattle.std.specs.Prelude.{◌≡◌, ℕ, ◌+◌, ◌*◌, Bool, true, false, not, Ok, Err, Result}
use Rattle.answers.specs.declared.LogCause.{LogCause}
use Rattle.answers.specs.Numbers.{log_cause_of}
use Rattle.filter.specs.Filter.{Answer as Reply}
use Rattle.token_log.specs.declared.lifetime.TheConstants.{NANOS_PER_SECOND}

-- for each lifetime, which pairs of low half and issue time are barred
abbrev pub Bars : Type 0
Bars = ℕ → ℕ → ℕ → Bool

abbrev pub Answer : Type 0
Answer = Result (Unit {0}) LogCause

-- a filter's answer as the log's: its cause is handed on
abbrev pub raised : Reply → Answer
raised (Ok taken) = Ok taken
raised (Err cause) = Err (log_cause_of cause)

-- what a call asks: low half of a nonce, issue time in seconds, lifetime in nanoseconds
pub record Query : Type 0 where
  pub low : ℕ
  pub issued : ℕ
  pub lifetime : ℕ

-- issue time and expiry, in nanoseconds
abbrev pub issue : ℕ → ℕ
issue seconds = seconds * NANOS_PER_SECOND

abbrev pub expiry : ℕ → ℕ → ℕ
expiry lifetime seconds = issue seconds + lifetime

-- refused exactly for a barred pair, and then nothing of the meaning was altered; otherwise the pair is barred now, and
-- nothing that was barred under that lifetime was freed
pub record Answered (x : Query) (taken : Bool) (b b' : Bars) : Type 0 where
  pub answer : taken ≡ not (b x.lifetime x.low x.issued)
  pub same : taken ≡ false → (t l i : ℕ) → b' t l i ≡ b t l i
  pub barred : taken ≡ true → b' x.lifetime x.low x.issued ≡ true
  pub kept : taken ≡ true → (l i : ℕ) → b x.lifetime l i ≡ true → b' x.lifetime l i ≡ true
