-- The numbers by which refusals and causes are known.
use Rattle.std.specs.Prelude.{◌≡◌, ◌≢◌, ℕ, ◌≤◌, ◌⊎◌}
use Rattle.answers.specs.declared.Refusal.{Refusal}
use Rattle.answers.specs.declared.Refusal.TheVariants as refusal
use Rattle.answers.specs.declared.FilterCause.{FilterCause}
use Rattle.answers.specs.declared.FilterCause.TheVariants as filter_cause
use Rattle.answers.specs.declared.LogCause.{LogCause}
use Rattle.answers.specs.declared.LogCause.TheVariants as log_cause
use Rattle.answers.specs.declared.Cause.{Cause}
use Rattle.answers.specs.declared.Cause.TheVariants as cause

abbrev pub refusal_number : Refusal → ℕ
refusal_number refusal.SmallBuffer = 1
refusal_number refusal.LongConnectionId = 2
refusal_number refusal.LateClock = 3
refusal_number refusal.LongLifetime = 4
refusal_number refusal.HashCount = 5
refusal_number refusal.LongEntry = 6
refusal_number refusal.Capacity = 7
refusal_number refusal.AlreadyRetried = 8
refusal_number refusal.BeyondAllowance = 41
refusal_number refusal.NoPath = 42
refusal_number refusal.GrantsOpen = 43
refusal_number refusal.ResetTableFull = 44

abbrev pub cause_number : Cause → ℕ
cause_number cause.ZeroLifetime = 11
cause_number cause.BeforePeriod = 12
cause_number cause.Held = 13
cause_number cause.Full = 14
cause_number cause.EmptyToken = 20
cause_number cause.Unopened = 21
cause_number (cause.Undecodable fault) = 22
cause_number cause.OtherIp = 23
cause_number cause.Expired = 24
cause_number cause.OtherAddress = 31
cause_number cause.RetryExpired = 32

-- a filter's cause in the log above it, and a log's in the gate
abbrev pub log_cause_of : FilterCause → LogCause
log_cause_of filter_cause.Held = log_cause.Held
log_cause_of filter_cause.Full = log_cause.Full

abbrev pub cause_of : LogCause → Cause
cause_of log_cause.ZeroLifetime = cause.ZeroLifetime
cause_of log_cause.BeforePeriod = cause.BeforePeriod
cause_of log_cause.Held = cause.Held
cause_of log_cause.Full = cause.Full

-- a cause has one number in every layer
abbrev pub log_cause_number : LogCause → ℕ
log_cause_number c = cause_number (cause_of c)

abbrev pub filter_cause_number : FilterCause → ℕ
filter_cause_number c = log_cause_number (log_cause_of c)

-- equal numbers, equal answers (two contents may be undecodable for different faults); refusals are 1 to 8 and 41 to 44,
-- causes are above 8, and no number is a refusal's and a cause's
pub record NumbersTell : Type 0 where
  pub refusals : (a b : Refusal) → refusal_number a ≡ refusal_number b → a ≡ b
  pub filter_causes : (a b : FilterCause) → filter_cause_number a ≡ filter_cause_number b → a ≡ b
  pub log_causes : (a b : LogCause) → log_cause_number a ≡ log_cause_number b → a ≡ b
  pub causes : (a b : Cause) → cause_number a ≡ cause_number b → (a ≡ b) ⊎ (cause_number a ≡ 22)
  pub few : (a : Refusal) → ((1 ≤ refusal_number a) × (refusal_number a ≤ 8)) ⊎ ((41 ≤ refusal_number a) × (refusal_number a ≤ 44))
  pub high : (b : Cause) → 9 ≤ cause_number b
  pub apart : (a : Refusal) (b : Cause) → refusal_number a ≢ cause_number b
