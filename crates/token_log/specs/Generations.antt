-- The log of two generations: what it bars, and the full account of one call.
use Rattle.std.specs.Prelude.{◌≡◌, ℕ, ◌+◌, ◌*◌, ◌<◌, ◌≤◌, Bool, false, if◌then◌else◌, ◌||◌, Err, ◌==◌, nat_lt}
use Rattle.answers.specs.declared.LogCause.TheVariants.{ZeroLifetime, BeforePeriod}
use Rattle.filter.specs.Filter.{Meaning, Answer as Reply, Fresh}
use Rattle.token_log.specs.declared.two_generations.TwoGenerationLog.{TwoGenerationLog}
use Rattle.token_log.specs.Log.{Bars, Query, Answer, raised, issue, expiry}

-- by an expiry e: before the period start all; within one lifetime of it what generation one refuses; within two what
-- generation two does; and later none
abbrev pub within : ℕ → Meaning → Meaning → ℕ → ℕ → ℕ → Bool
within start one two t low e =
    nat_lt e start || (if nat_lt e (start + t) then one.refuses low else (if nat_lt e (start + 2 * t) then two.refuses low else false))

-- what it bars; under a zero lifetime all
abbrev pub barred : {F : Type 0} → (F → Meaning) → TwoGenerationLog F → Bars
barred m s t low issued = t == 0 || within s.period_start (m s.one) (m s.two) t low (expiry t issued)

-- by the account R of a filter's recordings: one whose answer the log hands on
pub record HandsOn {F : Type 0} (R : F → ℕ → Reply → F → Type 0) (a : F) (f : ℕ) (r : Answer) (a' : F) : Type 0 where
  pub reply : Reply
  pub records : R a f reply a'
  pub answer : r ≡ raised reply

-- over any filter, by its accounts: R of a recording, E of an emptying
module _ {F : Type 0} (R : F → ℕ → Reply → F → Type 0) (E : F → F → Type 0) where
  -- a filter was emptied and then recorded f
  pub record Anew (a : F) (f : ℕ) (r : Answer) (a' : F) : Type 0 where
    pub between : F
    pub emptied : E a between
    pub recorded : HandsOn R between f r a'

  -- a call, by where the expiry lies from the period start on
  pub data Logs (s : TwoGenerationLog F) (x : Query) (r : Answer) (s' : TwoGenerationLog F) : Type 0 where
    never : x.lifetime ≡ 0 → r ≡ Err ZeroLifetime → s' ≡ s → Logs s x r s'
    before : 0 < x.lifetime → expiry x.lifetime x.issued < s.period_start → r ≡ Err BeforePeriod → s' ≡ s → Logs s x r s'
    in_one : s.period_start ≤ expiry x.lifetime x.issued → expiry x.lifetime x.issued < s.period_start + x.lifetime
        → s'.period_start ≡ s.period_start → HandsOn R s.one x.low r s'.one → s'.two ≡ s.two → Logs s x r s'
    in_two : s.period_start + x.lifetime ≤ expiry x.lifetime x.issued → expiry x.lifetime x.issued < s.period_start + 2 * x.lifetime
        → s'.period_start ≡ s.period_start → s'.one ≡ s.one → HandsOn R s.two x.low r s'.two → Logs s x r s'
    next : s.period_start + 2 * x.lifetime ≤ expiry x.lifetime x.issued → expiry x.lifetime x.issued < s.period_start + 3 * x.lifetime
        → s'.period_start ≡ s.period_start + x.lifetime → s'.one ≡ s.two → Anew s.one x.low r s'.two → Logs s x r s'
    afresh : 0 < x.lifetime → s.period_start + 3 * x.lifetime ≤ expiry x.lifetime x.issued
        → s'.period_start ≡ issue x.issued → E s.one s'.one → Anew s.two x.low r s'.two → Logs s x r s'

-- a new log over two filters
pub record Begun {F : Type 0} (E : F → F → Type 0) (one two : F) (s : TwoGenerationLog F) : Type 0 where
  pub starts : s.period_start ≡ 0
  pub ones : E one s.one
  pub twos : E two s.two

-- a log that no call was made of, over filters of the sure count c
pub record Unused {F : Type 0} (m : F → Meaning) (c : ℕ) (s : TwoGenerationLog F) : Type 0 where
  pub starts : s.period_start ≡ 0
  pub ones : Fresh c (m s.one)
  pub twos : Fresh c (m s.two)
