-- From the steps of a call that writes a token to what it leaves.
use Rattle.std.proofs.Common.{◌≡◌, ℕ, ◌<◌, ◌≤◌, Bool, true, false, cond, ◌||◌, nat_lt, List, length, take, drop, Ok, Err, Result, sym, refl, ap, ◌∙◌, arith}
use Rattle.std.proofs.lemmas.List.{take_at}
use Rattle.std.proofs.lemmas.Bool.{ltb-false}
use Rattle.answers.specs.declared.Refusal.{Refusal}
use Rattle.sealing.specs.declared.token.Nonce.{Nonce}
use Rattle.answers.specs.declared.Refused.{Refused}
use Rattle.sealing.specs.Tokens.{wiped, TokenWritten}
use Rattle.answers.specs.declared.Refusal.TheVariants.{SmallBuffer, LateClock, AlreadyRetried}
use Rattle.wire.proofs.Faithful.{apart, same_ok, then_ok}
use Rattle.wire.specs.declared.types.TokenPayload.TheVariants.{Retry, Validation}
use Rattle.sealing.specs.Sealing.{Image}
use Rattle.sealing.specs.Tokens.{token_for}
use Rattle.gate.specs.declared.slip.Slip.{Slip}
use Rattle.gate.specs.Calls.{Terms, Issue, second, dated, token_issued, token_retried, is_retried, answer_to, buffer_after, working_after, with_nonce, Writes, wrote}

-- refused
pub refused : {E : Type 0} (back : Refusal → E) (token : Result (List ℕ) Refusal) (refusal : Refusal) (working out : List ℕ) → token ≡ Err refusal
    → Writes back token working working out out (Err (back refusal))
refused back token refusal working out e = rw e (record { answer = refl; within = tt; after = refl; blank = refl })

-- a token was written, and the working bytes are wiped
pub written : {E : Type 0} (back : Refusal → E) (token : Result (List ℕ) Refusal) (bytes working working' out out' : List ℕ) (n : ℕ) → token ≡ Ok bytes
    → TokenWritten bytes out out' n → 81 ≤ length out → working' ≡ wiped working → Writes back token working working' out out' (Ok n)
written back token bytes working working' out out' n e w room g =
    record {
      answer = ap Ok w.len ∙ ap (answer_to back) (sym e);
      within = omega (arith, w.bound);
      after = w.after ∙ ap (λ z. buffer_after z out) (sym e);
      blank = g ∙ ap (λ z. working_after z working) (sym e);
    }

-- what an issue answered with is what it was to write
pub wrote_is : (nonce : Nonce) (token : Result (List ℕ) Refusal) (working working' out out' : List ℕ) (r : Result ℕ (Refused Nonce))
    → Writes (with_nonce nonce) token working working' out out' r → wrote out' r ≡ token
wrote_is nonce (Ok bytes) working working' out out' r w =
    ap (wrote out') w.answer ∙ ap Ok (ap (take (length bytes)) w.after ∙ take_at bytes (drop (length bytes) out) (length bytes) refl)
wrote_is nonce (Err refusal) working working' out out' r w = ap (wrote out') w.answer

-- what an issue is to write, by the date
module _ (t : Terms) (x : Issue) where
  pub issue_refused : (refusal : Refusal) → Err refusal ≡ dated x.room x.working x.clock → token_issued t x ≡ Err refusal
  unfolding token_issued
  issue_refused refusal h = let k = sym h in rw k

  pub issue_written : (seconds : ℕ) → Ok seconds ≡ dated x.room x.working x.clock → token_issued t x ≡ Ok (token_for t.image x.low x.high (Validation x.ip seconds))
  unfolding token_issued
  issue_written seconds h = let k = sym h in rw k

-- and a retry
module _ (image : Image) (nonce : Nonce) (slip : Slip) (clock room working : ℕ) where
  pub retry_refused : (refusal : Refusal) → Err refusal ≡ dated room working clock → token_retried image nonce slip clock room working ≡ Err refusal
  unfolding token_retried
  retry_refused refusal h = let k = sym h in rw k

  pub retry_again : (seconds : ℕ) → Ok seconds ≡ dated room working clock → is_retried slip.validation ≡ true → token_retried image nonce slip clock room working ≡ Err AlreadyRetried
  unfolding token_retried
  retry_again seconds h e = let k = sym h in rw (k, e)

  pub retry_written : (seconds : ℕ) → Ok seconds ≡ dated room working clock → is_retried slip.validation ≡ false
      → token_retried image nonce slip clock room working ≡ Ok (token_for image nonce.low nonce.high (Retry slip.address slip.destination seconds))
  unfolding token_retried
  retry_written seconds h e = let k = sym h in rw (k, e)

-- a second that a token is dated by
tests : (a b : Bool) (m n : Refusal) (s u : ℕ) → cond a (Err m) (cond b (Err n) (Ok s)) ≡ Ok u → (b ≡ false) × (s ≡ u)
tests true b m n s u h = apart m u h
tests false true m n s u h = apart n u h
tests false false m n s u h = (refl, same_ok s u h)

dated_ok : (room working clock s : ℕ) → dated room working clock ≡ Ok s → (second clock < 4294967296) × (second clock ≡ s)
dated_ok room working clock s h =
    let d = tests (nat_lt room 81 || nat_lt working 96) (nat_lt 4294967295999999999 clock) SmallBuffer LateClock (second clock) s h in
    let k : clock ≤ 4294967295999999999 = ltb-false _ _ d.0 in (omega arith, d.1)

-- the token of an issue that was not refused
pub issued_of : (t : Terms) (i : Issue) (token : List ℕ) → token_issued t i ≡ Ok token
    → (second i.clock < 4294967296) × (token_for t.image i.low i.high (Validation i.ip (second i.clock)) ≡ token)
unfolding token_issued
issued_of t i token h =
    let w = then_ok (dated i.room i.working i.clock) _ token h in
    let d = dated_ok i.room i.working i.clock w.0 w.1 in
    (d.0, ap (λ z. token_for t.image i.low i.high (Validation i.ip z)) d.1 ∙ same_ok _ _ w.2)

-- and of a retry
unless : (b : Bool) (m : Refusal) (token u : List ℕ) → cond b (Err m) (Ok token) ≡ Ok u → token ≡ u
unless true m token u h = apart m u h
unless false m token u h = same_ok token u h

pub retried_of : (image : Image) (nonce : Nonce) (slip : Slip) (clock room working : ℕ) (token : List ℕ) → token_retried image nonce slip clock room working ≡ Ok token
    → (second clock < 4294967296) × (token_for image nonce.low nonce.high (Retry slip.address slip.destination (second clock)) ≡ token)
unfolding token_retried
retried_of image nonce slip clock room working token h =
    let w = then_ok (dated room working clock) _ token h in
    let d = dated_ok room working clock w.0 w.1 in
    (d.0, ap (λ z. token_for image nonce.low nonce.high (Retry slip.address slip.destination z)) d.1 ∙ unless _ _ _ _ w.2)
