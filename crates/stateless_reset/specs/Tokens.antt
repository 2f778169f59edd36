-- What a reset token is, and what making one leaves.
use Rattle.std.specs.Prelude.{◌≡◌, ℕ, List, ◌++◌, length, take, drop, replicate, is_ok, Ok, Err, Result, nat_lt, if◌then◌else◌}
use Rattle.answers.specs.declared.Refusal.{Refusal}
use Rattle.answers.specs.declared.Refusal.TheVariants.{SmallBuffer, LongConnectionId}
use Rattle.wire.specs.declared.TheConstants.{MAX_CID_LEN}
use Rattle.stateless_reset.specs.declared.TheConstants.{RESET_TOKEN_SIZE, RESET_WORKING_LEN}

-- the token of a connection id: the first bytes of its signature
abbrev pub token_of : (List ℕ → List ℕ) → List ℕ → List ℕ
token_of signature id = take RESET_TOKEN_SIZE (signature id)

-- what making it answers, by the number of working bytes
abbrev pub made : (List ℕ → List ℕ) → List ℕ → ℕ → Result (List ℕ) Refusal
made signature id working =
    if nat_lt working RESET_WORKING_LEN then Err SmallBuffer
    else if nat_lt MAX_CID_LEN (length id) then Err LongConnectionId
    else Ok (token_of signature id)

-- the working bytes afterwards: working bytes and signature are zero, and those past them as they were
abbrev pub wiped : List ℕ → List ℕ
wiped working = replicate RESET_WORKING_LEN 0 ++ drop RESET_WORKING_LEN working

-- a token was made and its working bytes are wiped, or it was refused and nothing was written
pub record Makes (signature : List ℕ → List ℕ) (id working working' : List ℕ) (r : Result (List ℕ) Refusal) : Type 0 where
  pub answer : r ≡ made signature id (length working)
  pub after : working' ≡ (if is_ok r then wiped working else working)
