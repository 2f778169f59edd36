-- A number tells its answer: the answer is found again by the number.
use Rattle.std.proofs.Common.{◌≡◌, ℕ, ◌≤◌, cond, nat_eq, ◌⊎◌, Some, None, Option, sym, refl, ap, ◌∙◌, inl, inr, ⊎_elim, arith}
use Rattle.answers.specs.declared.Refusal.{Refusal}
use Rattle.answers.specs.declared.Refusal.TheVariants as refusal
use Rattle.answers.specs.declared.FilterCause.{FilterCause}
use Rattle.answers.specs.declared.FilterCause.TheVariants as filter_cause
use Rattle.answers.specs.declared.LogCause.{LogCause}
use Rattle.answers.specs.declared.LogCause.TheVariants as log_cause
use Rattle.answers.specs.declared.Cause.{Cause}
use Rattle.answers.specs.declared.Cause.TheVariants as cause
use Rattle.answers.specs.Numbers.{refusal_number, filter_cause_number, log_cause_number, cause_number, NumbersTell}

-- the answer that stands first in a list of numbered answers under this number
data Listed (X : Type 0) : Type 0 where
  none : Listed X
  entry : ℕ → X → Listed X → Listed X

abbrev find : {X : Type 0} → Listed X → ℕ → Option X
find none n = None
find (entry k x rest) n = cond (nat_eq k n) (Some x) (find rest n)

abbrev refusals : Listed Refusal
refusals =
    entry 1 refusal.SmallBuffer (entry 2 refusal.LongConnectionId (entry 3 refusal.LateClock (entry 4 refusal.LongLifetime
    (entry 5 refusal.HashCount (entry 6 refusal.LongEntry (entry 7 refusal.Capacity (entry 8 refusal.AlreadyRetried
    (entry 41 refusal.BeyondAllowance (entry 42 refusal.NoPath (entry 43 refusal.GrantsOpen (entry 44 refusal.ResetTableFull none)))))))))))

abbrev causes : Listed Cause
causes =
    entry 11 cause.ZeroLifetime (entry 12 cause.BeforePeriod (entry 13 cause.Held (entry 14 cause.Full
    (entry 20 cause.EmptyToken (entry 21 cause.Unopened (entry 23 cause.OtherIp (entry 24 cause.Expired
    (entry 31 cause.OtherAddress (entry 32 cause.RetryExpired none)))))))))

abbrev log_causes : Listed LogCause
log_causes = entry 11 log_cause.ZeroLifetime (entry 12 log_cause.BeforePeriod (entry 13 log_cause.Held (entry 14 log_cause.Full none)))

abbrev filter_causes : Listed FilterCause
filter_causes = entry 13 filter_cause.Held (entry 14 filter_cause.Full none)

refusal_found : (a : Refusal) → find refusals (refusal_number a) ≡ Some a
refusal_found refusal.SmallBuffer = refl
refusal_found refusal.LongConnectionId = refl
refusal_found refusal.LateClock = refl
refusal_found refusal.LongLifetime = refl
refusal_found refusal.HashCount = refl
refusal_found refusal.LongEntry = refl
refusal_found refusal.Capacity = refl
refusal_found refusal.AlreadyRetried = refl
refusal_found refusal.BeyondAllowance = refl
refusal_found refusal.NoPath = refl
refusal_found refusal.GrantsOpen = refl
refusal_found refusal.ResetTableFull = refl

log_cause_found : (a : LogCause) → find log_causes (log_cause_number a) ≡ Some a
log_cause_found log_cause.ZeroLifetime = refl
log_cause_found log_cause.BeforePeriod = refl
log_cause_found log_cause.Held = refl
log_cause_found log_cause.Full = refl

filter_cause_found : (a : FilterCause) → find filter_causes (filter_cause_number a) ≡ Some a
filter_cause_found filter_cause.Held = refl
filter_cause_found filter_cause.Full = refl

-- a cause's number is no refusal's
cause_found : (a : Cause) → ((find causes (cause_number a) ≡ Some a) ⊎ (cause_number a ≡ 22)) × (find refusals (cause_number a) ≡ None)
cause_found cause.ZeroLifetime = (inl refl, refl)
cause_found cause.BeforePeriod = (inl refl, refl)
cause_found cause.Held = (inl refl, refl)
cause_found cause.Full = (inl refl, refl)
cause_found cause.EmptyToken = (inl refl, refl)
cause_found cause.Unopened = (inl refl, refl)
cause_found (cause.Undecodable f) = (inr refl, refl)
cause_found cause.OtherIp = (inl refl, refl)
cause_found cause.Expired = (inl refl, refl)
cause_found cause.OtherAddress = (inl refl, refl)
cause_found cause.RetryExpired = (inl refl, refl)

same_some : {X : Type 0} (a b : X) → Some a ≡ Some b → a ≡ b
same_some a b h = cc

-- an answer that is found by its number is told by it
told : {X : Type 0} (xs : Listed X) (number : X → ℕ) (found : (a : X) → find xs (number a) ≡ Some a) (a b : X) → number a ≡ number b → a ≡ b
told xs number found a b e = same_some a b (sym (found a) ∙ ap (find xs) e ∙ found b)

same_cause : (a b : Cause) → cause_number a ≡ cause_number b → (a ≡ b) ⊎ (cause_number a ≡ 22)
same_cause a b e =
    ⊎_elim
    (λ p. ⊎_elim (λ q. inl (same_some a b (sym p ∙ ap (find causes) e ∙ q))) (λ q. inr (e ∙ q)) (cause_found b).0)
    (λ p. inr p)
    (cause_found a).0

-- where the numbers lie
few : (a : Refusal) → ((1 ≤ refusal_number a) × (refusal_number a ≤ 8)) ⊎ ((41 ≤ refusal_number a) × (refusal_number a ≤ 44))
few refusal.SmallBuffer = inl (omega arith, omega arith)
few refusal.LongConnectionId = inl (omega arith, omega arith)
few refusal.LateClock = inl (omega arith, omega arith)
few refusal.LongLifetime = inl (omega arith, omega arith)
few refusal.HashCount = inl (omega arith, omega arith)
few refusal.LongEntry = inl (omega arith, omega arith)
few refusal.Capacity = inl (omega arith, omega arith)
few refusal.AlreadyRetried = inl (omega arith, omega arith)
few refusal.BeyondAllowance = inr (omega arith, omega arith)
few refusal.NoPath = inr (omega arith, omega arith)
few refusal.GrantsOpen = inr (omega arith, omega arith)
few refusal.ResetTableFull = inr (omega arith, omega arith)

high : (b : Cause) → 9 ≤ cause_number b
high cause.ZeroLifetime = omega arith
high cause.BeforePeriod = omega arith
high cause.Held = omega arith
high cause.Full = omega arith
high cause.EmptyToken = omega arith
high cause.Unopened = omega arith
high (cause.Undecodable f) = omega arith
high cause.OtherIp = omega arith
high cause.Expired = omega arith
high cause.OtherAddress = omega arith
high cause.RetryExpired = omega arith

pub numbers_tell : NumbersTell
numbers_tell = record {
  refusals = told refusals refusal_number refusal_found;
  filter_causes = told filter_causes filter_cause_number filter_cause_found;
  log_causes = told log_causes log_cause_number log_cause_found;
  causes = same_cause;
  few = few;
  high = high;
  apart = λ a b e. let x : ◌≡◌ {A = Option Refusal} (Some a) None = sym (refusal_found a) ∙ ap (find refusals) e ∙ (cause_found b).1 in cc;
}
