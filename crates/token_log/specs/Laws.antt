-- What every succession of calls on a log keeps.
use Rattle.std.specs.Prelude.{◌≡◌, ℕ, ◌+◌, ◌<◌, Bool, true, false, if◌then◌else◌, ◌&&◌, ◌||◌, List, [], ◌∷◌, is_ok, ◌==◌, ◌≢◌, nat_le, nat_lt}
use Rattle.std.specs.List.{AllByRecursion}
use Rattle.answers.specs.Successions.{Each}
use Rattle.filter.specs.Filter.{Meaning, Answer as Reply}
use Rattle.token_log.specs.declared.two_generations.TwoGenerationLog.{TwoGenerationLog}
use Rattle.token_log.specs.Log.{Query, Answer, issue, expiry}
use Rattle.token_log.specs.Generations.{barred, Logs, Unused}
use Rattle.token_log.specs.Successions.{Call, Leads, Under}

-- no accepted call among ks asks for this pair
abbrev pub Unasked : ℕ → ℕ → List Call → Type 0
Unasked low issued ks = AllByRecursion (λ k. is_ok k.answer ≡ true → k.query.low ≡ low → k.query.issued ≢ issued) ks

-- no two accepted calls ask for one pair
abbrev pub EachOnce : List Call → Type 0
EachOnce ks = Each (λ k earlier. is_ok k.answer ≡ true → Unasked k.query.low k.query.issued earlier) ks

-- under one lifetime
abbrev pub NoPairIsAcceptedTwice : {L : Type 0} → (L → Query → Answer → L → Type 0) → Type 0
NoPairIsAcceptedTwice {L} R = (t : ℕ) (s s' : L) (ks : List Call) → Leads R s ks s' → Under t ks → EachOnce ks

-- of earlier calls: how many were accepted, whether one of these has the low half, whether one was issued past e
abbrev pub accepted : List Call → ℕ
accepted [] = 0
accepted (k ∷ ks) = (if is_ok k.answer then 1 else 0) + accepted ks

abbrev pub has : ℕ → List Call → Bool
has low [] = false
has low (k ∷ ks) = (is_ok k.answer && k.query.low == low) || has low ks

abbrev pub past : ℕ → List Call → Bool
past e [] = false
past e (k ∷ ks) = (is_ok k.answer && nat_lt e (issue k.query.issued)) || past e ks

-- what may turn away what is asked after the earlier calls
abbrev pub excused : ℕ → Query → List Call → Bool
excused c x earlier = has x.low earlier || (past (expiry x.lifetime x.issued) earlier || nat_le c (accepted earlier))

-- over filters of the sure count c, from an unused log on, whatever the lifetimes: each call with a lifetime above zero is
-- accepted, unless excused
abbrev pub EveryFreshPairIsAccepted : {F : Type 0} → (F → Meaning) → (F → ℕ → Reply → F → Type 0) → (F → F → Type 0) → Type 0
EveryFreshPairIsAccepted {F} m R E =
    (c : ℕ) (s s' : TwoGenerationLog F) (ks : List Call) → Unused m c s → Leads (Logs R E) s ks s'
    → Each (λ k earlier. 0 < k.query.lifetime → excused c k.query earlier ≡ false → is_ok k.answer ≡ true) ks

-- and after such calls, what is not excused is not barred
abbrev pub NoFreshPairIsBarred : {F : Type 0} → (F → Meaning) → (F → ℕ → Reply → F → Type 0) → (F → F → Type 0) → Type 0
NoFreshPairIsBarred {F} m R E =
    (c : ℕ) (s s' : TwoGenerationLog F) (ks : List Call) (x : Query) → Unused m c s → Leads (Logs R E) s ks s' → 0 < x.lifetime
    → excused c x ks ≡ false → barred m s' x.lifetime x.low x.issued ≡ false
