-- The calls of a gate: what each brings, what it is answered, and what becomes of buffers and log.
use Rattle.std.specs.Prelude.{◌≡◌, ℕ, ◌/◌, ◌<◌, ◌≤◌, Bool, true, false, ◌||◌, List, length, take, IfOk, Some, None, Ok, Err, Option, Result, nat_le, nat_lt, if◌then◌else◌}
use Rattle.answers.specs.declared.Cause.{Cause}
use Rattle.answers.specs.declared.Cause.TheVariants.{OtherIp, Expired, OtherAddress, RetryExpired}
use Rattle.answers.specs.declared.Refusal.{Refusal}
use Rattle.answers.specs.declared.Refusal.TheVariants.{SmallBuffer, LateClock, AlreadyRetried}
use Rattle.answers.specs.Numbers.{cause_number, cause_of}
use Rattle.answers.specs.Buffers.{fronted}
use Rattle.wire.specs.declared.types.IpAddr.{IpAddr}
use Rattle.wire.specs.declared.types.SocketAddr.{SocketAddr}
use Rattle.wire.specs.Fields.{and_then}
use Rattle.wire.specs.declared.types.TokenPayload.{TokenPayload}
use Rattle.wire.specs.Content.{same_ip, same_addr, id_from}
use Rattle.wire.specs.declared.types.TokenPayload.TheVariants.{Retry, Validation}
use Rattle.wire.specs.Laws.{SoundIp, SoundAddr, SoundId}
use Rattle.sealing.specs.declared.token.Nonce.{Nonce}
use Rattle.answers.specs.declared.Refused.{Refused}
use Rattle.sealing.specs.declared.TheConstants.{MAX_TOKEN_LEN, WORKING_LEN}
use Rattle.sealing.specs.Sealing.{Image, Opening}
use Rattle.sealing.specs.Tokens.{token_for, low_of, says, wiped}
use Rattle.token_log.specs.Log.{Answer, expiry}
use Rattle.gate.specs.declared.checks.TheConstants.{LAST_CLOCK}
use Rattle.token_log.specs.declared.lifetime.TheConstants.{NANOS_PER_SECOND}
use Rattle.gate.specs.declared.verdict.Verdict.{Verdict}
use Rattle.gate.specs.declared.verdict.Verdict.TheVariants.{Validated, Unvalidated, Rejected}
use Rattle.gate.specs.declared.verdict.Arrived.{Arrived}
use Rattle.gate.specs.declared.verdict.Weighed.{Weighed}
use Rattle.gate.specs.declared.verdict.Weighed.TheVariants.{Settled, Asks}
use Rattle.gate.specs.declared.slip.AddressValidation.{AddressValidation}
use Rattle.gate.specs.declared.slip.AddressValidation.TheVariants.{Missing, ByToken, ByRetry}
use Rattle.gate.specs.declared.slip.Slip.{Slip}

-- what no call alters: how tokens are sealed and opened, and the lifetimes of retry and validation tokens
pub record Terms : Type 0 where
  pub image : Image
  pub opened : Opening
  pub retry : ℕ
  pub validation : ℕ

-- the number of a verdict: that of its cause, or 0
abbrev pub verdict_number : Verdict → ℕ
verdict_number (Validated source original) = 0
verdict_number (Unvalidated cause original) = cause_number cause
verdict_number (Rejected cause) = cause_number cause

-- its cause, if it has one
abbrev pub verdict_cause : Verdict → Option Cause
verdict_cause (Validated source original) = None
verdict_cause (Unvalidated cause original) = Some cause
verdict_cause (Rejected cause) = Some cause

-- the slip of an arrival, by its verdict
abbrev pub owed : SocketAddr → List ℕ → Verdict → Option Slip
owed a d (Validated (Some source) original) = Some (record { address = a; destination = d; validation = ByRetry })
owed a d (Validated None original) = Some (record { address = a; destination = d; validation = ByToken })
owed a d (Unvalidated cause original) = Some (record { address = a; destination = d; validation = Missing })
owed a d (Rejected cause) = None

-- the whole answer of an arrival with a verdict
abbrev pub arrived : SocketAddr → List ℕ → Verdict → Arrived
arrived a d verdict = record { verdict = verdict; slip = owed a d verdict }

-- what an issue brings: a drawn nonce, an IP, a clock reading, and the lengths of both buffers
pub record Issue : Type 0 where
  pub low : ℕ
  pub high : ℕ
  pub ip : IpAddr
  pub clock : ℕ
  pub room : ℕ
  pub working : ℕ

abbrev pub issue_of : Nonce → IpAddr → ℕ → List ℕ → List ℕ → Issue
issue_of nonce ip clock out working =
    record { low = nonce.low; high = nonce.high; ip = ip; clock = clock; room = length out; working = length working }

-- what the types of the code say of an issue
abbrev pub FitsIssue : Issue → Type 0
FitsIssue x = (x.low < 18446744073709551616) × SoundIp x.ip

-- what an arrival brings: any bytes as a token, a destination id, an address, a clock reading, the length of the working bytes
pub record Arrival : Type 0 where
  pub token : List ℕ
  pub destination : List ℕ
  pub address : SocketAddr
  pub clock : ℕ
  pub working : ℕ

abbrev pub arrival_of : List ℕ → List ℕ → SocketAddr → ℕ → List ℕ → Arrival
arrival_of token destination address clock working =
    record { token = token; destination = destination; address = address; clock = clock; working = length working }

-- the whole second of a clock reading
abbrev pub second : ℕ → ℕ
second clock = clock / NANOS_PER_SECOND

-- a token of a second is in date until its expiry, inclusive
abbrev pub in_date : ℕ → ℕ → ℕ → Bool
in_date lifetime seconds clock = nat_le clock (expiry lifetime seconds)

-- the second that a written token is dated by, or the refusal, by the lengths of both buffers and the clock reading
abbrev pub dated : ℕ → ℕ → ℕ → Result ℕ Refusal
dated room working clock =
    if nat_lt room MAX_TOKEN_LEN || nat_lt working WORKING_LEN then Err SmallBuffer
    else if nat_lt LAST_CLOCK clock then Err LateClock
    else Ok (second clock)

-- what an issue writes: a validation token for the IP
unfoldable pub token_issued : Terms → Issue → Result (List ℕ) Refusal
token_issued t x =
    and_then (dated x.room x.working x.clock) (λ seconds. Ok (token_for t.image x.low x.high (Validation x.ip seconds)))

-- whether a token validated the address; whether a retry token did
abbrev pub is_validated : AddressValidation → Bool
is_validated Missing = false
is_validated ByToken = true
is_validated ByRetry = true

abbrev pub is_retried : AddressValidation → Bool
is_retried Missing = false
is_retried ByToken = false
is_retried ByRetry = true

-- what the types of the code say of what a retry brings
abbrev pub FitsRetry : Nonce → Slip → Type 0
FitsRetry nonce slip = (nonce.low < 18446744073709551616) × SoundAddr slip.address × SoundId slip.destination

-- what a retry writes: a retry token for the slip's address, with its destination id as the original id
unfoldable pub token_retried : Image → Nonce → Slip → ℕ → ℕ → ℕ → Result (List ℕ) Refusal
token_retried image nonce slip clock room working =
    and_then (dated room working clock) (λ seconds.
    if is_retried slip.validation then Err AlreadyRetried else Ok (token_for image nonce.low nonce.high (Retry slip.address slip.destination seconds)))

-- the answer of a call that writes a token: its length, or what comes back with a refusal
abbrev pub answer_to : {E : Type 0} → (Refusal → E) → Result (List ℕ) Refusal → Result ℕ E
answer_to back (Ok token) = Ok (length token)
answer_to back (Err refusal) = Err (back refusal)

-- the buffer after such a call, and the working bytes
abbrev pub buffer_after : Result (List ℕ) Refusal → List ℕ → List ℕ
buffer_after (Ok token) out = fronted token out
buffer_after (Err refusal) out = out

abbrev pub working_after : {A E : Type 0} → Result A E → List ℕ → List ℕ
working_after (Ok a) working = wiped working
working_after (Err e) working = working

-- what comes back with a refused issue, and with a refused retry
abbrev pub with_nonce : Nonce → Refusal → Refused Nonce
with_nonce nonce refusal = record { refusal = refusal; back = nonce }

abbrev pub with_slip : Slip → Nonce → Refusal → Refused (Slip × Nonce)
with_slip slip nonce refusal = record { refusal = refusal; back = (slip, nonce) }

-- a call that was to write a token wrote it, and wiped the working bytes; or it was refused, and wrote nothing
pub record Writes {E : Type 0} (back : Refusal → E) (token : Result (List ℕ) Refusal) (working working' out out' : List ℕ) (r : Result ℕ E) : Type 0 where
  pub answer : r ≡ answer_to back token
  pub within : IfOk r (λ n. n ≤ length out)
  pub after : out' ≡ buffer_after token out
  pub blank : working' ≡ working_after token working

-- the destination id of an arrival that is not refused
abbrev pub admitted : ℕ → List ℕ → ℕ → Result (List ℕ) Refusal
admitted working destination clock =
    if nat_lt working 96 then Err SmallBuffer
    else and_then (id_from destination) (λ id. if nat_lt LAST_CLOCK clock then Err LateClock else Ok id)

-- what an arrival alone decides: its verdict, or to ask the log about a low half and an issue time
pub data Judged : Type 0 where
  settled : Verdict → Judged
  asks : ℕ → ℕ → Judged

-- the same as the code has it
abbrev pub judged_by : Weighed → Judged
judged_by (Settled verdict) = settled verdict
judged_by (Asks low seconds) = asks low seconds

-- by what its token says, each test in its order: a retry token validates the address, or the arrival is rejected (RFC 9000,
-- section 8.1.2); any other token validates it, if the log agrees, or counts as none (section 8.1.3)
abbrev pub weigh : Terms → Arrival → Result TokenPayload Cause → Judged
weigh t x (Err cause) = settled (Unvalidated cause x.destination)
weigh t x (Ok (Retry address original seconds)) =
    if same_addr address x.address
    then (if in_date t.retry seconds x.clock then settled (Validated (Some x.destination) original) else settled (Rejected RetryExpired))
    else settled (Rejected OtherAddress)
weigh t x (Ok (Validation ip seconds)) =
    if same_ip ip x.address.ip
    then (if in_date t.validation seconds x.clock then asks (low_of x.token) seconds else settled (Unvalidated Expired x.destination))
    else settled (Unvalidated OtherIp x.destination)

unfoldable pub judge : Terms → Arrival → Result Judged Refusal
judge t x = and_then (admitted x.working x.destination x.clock) (λ id. Ok (weigh t x (says t.opened x.token)))

-- what the log's answer makes of an arrival that asks
abbrev pub decided : List ℕ → Answer → Verdict
decided destination (Ok taken) = Validated None destination
decided destination (Err cause) = Unvalidated (cause_of cause) destination

-- the verdict that an arrival was answered with
abbrev pub told : Result Arrived Refusal → Result Verdict Refusal
told (Ok arrived) = Ok arrived.verdict
told (Err refusal) = Err refusal

-- the bytes of the token that an issue answered with
abbrev pub wrote : List ℕ → Result ℕ (Refused Nonce) → Result (List ℕ) Refusal
wrote out (Ok n) = Ok (take n out)
wrote out (Err back) = Err back.refusal
