-- The laws of a gate, over whole successions of calls.
use Rattle.std.specs.Prelude.{◌≡◌, ℕ, ◌+◌, ◌<◌, ◌≤◌, Bool, true, false, not, ◌&&◌, List, [], ◌∷◌, ◌++◌, is_ok, Some, None, Ok, Err, Option, Result, ◌≢◌, if◌then◌else◌}
use Rattle.std.specs.List.{AllByRecursion}
use Rattle.answers.specs.declared.Cause.{Cause}
use Rattle.answers.specs.declared.Refusal.{Refusal}
use Rattle.answers.specs.Successions.{Each, EachFrom, Exists}
use Rattle.wire.specs.declared.types.TokenPayload.{TokenPayload}
use Rattle.wire.specs.declared.types.TokenPayload.TheVariants.{Retry, Validation}
use Rattle.sealing.specs.declared.token.Nonce.{Nonce}
use Rattle.sealing.specs.Sealing.{Image, Opening}
use Rattle.sealing.specs.Tokens.{low_of, says}
use Rattle.filter.specs.Filter.{Meaning, Answer as Reply}
use Rattle.token_log.specs.declared.two_generations.TwoGenerationLog.{TwoGenerationLog}
use Rattle.token_log.specs.Log.{Bars, Query, Answer, issue, expiry}
use Rattle.token_log.specs.Generations.{Logs, Unused}
use Rattle.gate.specs.declared.slip.Slip.{Slip}
use Rattle.gate.specs.declared.Gate.{Gate}
use Rattle.gate.specs.declared.verdict.Verdict.{Verdict}
use Rattle.gate.specs.Calls.{Terms, Issue, Arrival, FitsIssue, FitsRetry, second, token_issued, token_retried, admitted, judge}
use Rattle.gate.specs.Calls.Judged.{settled}
use Rattle.gate.specs.declared.verdict.Verdict.TheVariants.{Validated, Unvalidated, Rejected}
use Rattle.gate.specs.Successions.{Call, terms, Leads}
use Rattle.gate.specs.Successions.Call.{issuing, arriving}

-- validated, and not by a retry token
abbrev pub honours : Result Verdict Refusal → Bool
honours (Ok (Validated None original)) = true
honours (Ok (Validated (Some source) original)) = false
honours (Ok (Unvalidated cause original)) = false
honours (Ok (Rejected cause)) = false
honours (Err refusal) = false

abbrev pub honoured : Call → Bool
honoured (issuing x r) = false
honoured (arriving x r) = honours r

-- the low half of its nonce and the issue time, where a token says a validation content
abbrev pub pair_of : List ℕ → Result TokenPayload Cause → Option (ℕ × ℕ)
pair_of token (Ok (Retry address original seconds)) = None
pair_of token (Ok (Validation ip seconds)) = Some (low_of token, seconds)
pair_of token (Err cause) = None

abbrev pub carried : Opening → List ℕ → Option (ℕ × ℕ)
carried opened token = pair_of token (says opened token)

abbrev pub carries : Terms → Call → Option (ℕ × ℕ)
carries t (issuing x r) = None
carries t (arriving x r) = carried t.opened x.token

-- a call carries a pair, and no honoured one before it carries the same
pub record Alone (t : Terms) (x : Call) (earlier : List Call) : Type 0 where
  pub pair : (p : ℕ × ℕ) × (carries t x ≡ Some p)
  pub others : AllByRecursion (λ y. honoured y ≡ true → carries t y ≢ carries t x) earlier

abbrev pub Once : Terms → List Call → Type 0
Once t xs = Each (λ x earlier. honoured x ≡ true → Alone t x earlier) xs

-- whatever the log was before: no two honoured arrivals carry one low half and issue time
abbrev pub NoTokenIsHonouredTwice : {S L : Type 0} → (S → Image) → (S → Opening) → (L → Query → Answer → L → Type 0) → Gate S L → Type 0
NoTokenIsHonouredTwice {S = S} {L = L} image opened R g = (start : Gate S L) (xs : List Call) → Leads image opened R start xs g → Once (terms image opened g) xs

-- of any two arrivals of a succession that brought the same bytes, not both are honoured
abbrev pub NoTwoWithOneTokenAreHonoured : {S L : Type 0} → (S → Image) → (S → Opening) → (L → Query → Answer → L → Type 0) → Gate S L → Type 0
NoTwoWithOneTokenAreHonoured {S = S} {L = L} image opened R g =
    (start : Gate S L) (newer between older : List Call) (x y : Arrival) (r q : Result Verdict Refusal)
    → Leads image opened R start (newer ++ (arriving x r ∷ (between ++ (arriving y q ∷ older)))) g → x.token ≡ y.token → (honours r && honours q) ≡ false

-- an arrival that got a verdict, in date, from the IP that an earlier issue wrote its token for
pub record Due (t : Terms) (i : Issue) (x : Arrival) (r : Result Verdict Refusal) (earlier : List Call) : Type 0 where
  pub verdict : is_ok r ≡ true
  pub issue : Exists (λ y. y ≡ issuing i (Ok x.token)) earlier
  pub ip : i.ip ≡ x.address.ip
  pub date : x.clock ≤ expiry t.validation (second i.clock)

-- such an arrival is honoured just if the log, as it is then, does not bar its low half and second under the validation lifetime
abbrev pub HonouredUnlessBarred : {S L : Type 0} → (S → Image) → (S → Opening) → (L → Bars) → Gate S L → Call → List Call → Type 0
HonouredUnlessBarred image opened bars g (issuing x r) earlier = Unit {0}
HonouredUnlessBarred image opened bars g (arriving x r) earlier =
    (i : Issue) → Due (terms image opened g) i x r earlier → honours r ≡ not (bars g.log g.validation (low_of x.token) (second i.clock))

abbrev pub AnIssuedTokenIsHonouredUnlessBarred : {S L : Type 0} → (S → Image) → (S → Opening) → (L → Bars) → (L → Query → Answer → L → Type 0) → Gate S L → Type 0
AnIssuedTokenIsHonouredUnlessBarred {S = S} {L = L} image opened bars R g =
    (start : Gate S L) (xs : List Call) (w : Leads image opened R start xs g) → EachFrom (HonouredUnlessBarred image opened bars) w

-- honoured, with this low half; with an issue time past this time; how many are honoured
pub record Takes (t : Terms) (low : ℕ) (y : Call) : Type 0 where
  pub taken : honoured y ≡ true
  pub pair : (seconds : ℕ) × (carries t y ≡ Some (low, seconds))

pub record Passes (t : Terms) (time : ℕ) (y : Call) : Type 0 where
  pub taken : honoured y ≡ true
  pub pair : (low seconds : ℕ) × (carries t y ≡ Some (low, seconds)) × (time < issue seconds)

abbrev pub honoured_among : List Call → ℕ
honoured_among [] = 0
honoured_among (x ∷ xs) = (if honoured x then 1 else 0) + honoured_among xs

-- honoured, or one of the three exceptions: an earlier honoured arrival has the low half, or one was issued past the time,
-- or the earlier honoured ones number at least c
pub data Stands (c : ℕ) (t : Terms) (low time : ℕ) (r : Result Verdict Refusal) (earlier : List Call) : Type 0 where
  is_honoured : honours r ≡ true → Stands c t low time r earlier
  low_taken : Exists (Takes t low) earlier → Stands c t low time r earlier
  time_passed : Exists (Passes t time) earlier → Stands c t low time r earlier
  sure_spent : c ≤ honoured_among earlier → Stands c t low time r earlier

abbrev pub Met : ℕ → Terms → Call → List Call → Type 0
Met c t (issuing x r) earlier = Unit {0}
Met c t (arriving x r) earlier =
    (i : Issue) → Due t i x r earlier → Stands c t (low_of x.token) (expiry t.validation (second i.clock)) r earlier

-- from a gate on whose log was unused, over filters of the sure count c, under a lifetime above zero
abbrev pub EveryIssuedTokenInDateIsHonoured : {S F : Type 0} → (S → Image) → (S → Opening) → (F → Meaning) → (F → ℕ → Reply → F → Type 0) → (F → F → Type 0)
    → Gate S (TwoGenerationLog F) → Type 0
EveryIssuedTokenInDateIsHonoured {S = S} {F = F} image opened m R E g =
    (c : ℕ) (start : Gate S (TwoGenerationLog F)) (xs : List Call) → Unused m c start.log → 0 < g.validation → Leads image opened (Logs R E) start xs g
    → Each (Met c (terms image opened g)) xs

-- an issued token says the IP and the second of its issue
abbrev pub AnIssuedTokenSaysItsIpAndSecond : Terms → Type 0
AnIssuedTokenSaysItsIpAndSecond t =
    (x : Issue) (token : List ℕ) → FitsIssue x → token_issued t x ≡ Ok token → says t.opened token ≡ Ok (Validation x.ip (second x.clock))

-- and carries the low half of its nonce and that second
abbrev pub AnIssuedTokenCarriesItsPair : Terms → Type 0
AnIssuedTokenCarriesItsPair t =
    (x : Issue) (token : List ℕ) → FitsIssue x → token_issued t x ≡ Ok token → carried t.opened token ≡ Some (x.low, second x.clock)

-- a retry token that was written for a slip, in date and from the slip's address: the arrival is validated, from its destination
-- id as the source and with the slip's id as the original one
abbrev pub ARetryTokenValidatesItsAddress : Terms → Type 0
ARetryTokenValidatesItsAddress t =
    (nonce : Nonce) (slip : Slip) (clock room working : ℕ) (x : Arrival) → FitsRetry nonce slip → token_retried t.image nonce slip clock room working ≡ Ok x.token
    → x.address ≡ slip.address → x.clock ≤ expiry t.retry (second clock) → is_ok (admitted x.working x.destination x.clock) ≡ true
    → judge t x ≡ Ok (settled (Validated (Some x.destination) slip.destination))
