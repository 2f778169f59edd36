-- The bytes of a token, what they say, and what reading and writing one leaves.
use Rattle.std.specs.Prelude.{◌≡◌, ℕ, ◌-◌, ◌≤◌, ◌||◌, List, ◌++◌, length, take, drop, replicate, is_ok, IfOk, Some, None, Ok, Err, Option, Result, nat_lt, if◌then◌else◌}
use Rattle.answers.specs.declared.Refusal.TheVariants.{SmallBuffer}
use Rattle.answers.specs.declared.Cause.{Cause}
use Rattle.answers.specs.declared.Cause.TheVariants.{EmptyToken, Unopened, Undecodable}
use Rattle.answers.specs.declared.Fault.{Fault}
use Rattle.answers.specs.Buffers.{fronted}
use Rattle.wire.specs.Fields.{and_then}
use Rattle.wire.specs.Numbers.{little_endian, from_little_endian}
use Rattle.wire.specs.declared.types.TokenPayload.{TokenPayload}
use Rattle.wire.specs.Content.{encode_content, decode_content}
use Rattle.sealing.specs.declared.token.Nonce.{Nonce}
use Rattle.sealing.specs.declared.token.Token.{Token}
use Rattle.answers.specs.declared.Refused.{Refused}
use Rattle.sealing.specs.declared.TheConstants.{NONCE_LEN, MAX_TOKEN_LEN, WORKING_LEN}
use Rattle.sealing.specs.Sealing.{Image, Opening}

-- the sixteen bytes of a nonce: its low half, then its high half, each with the lowest byte first
unfoldable pub nonce_bytes : ℕ → ℕ → List ℕ
nonce_bytes low high = little_endian 8 low ++ little_endian 8 high

-- a token: what its nonce makes of the content, and the nonce behind it
unfoldable pub sealed_with : Image → List ℕ → TokenPayload → List ℕ
sealed_with image nonce content = image nonce (encode_content content) ++ nonce

abbrev pub token_for : Image → ℕ → ℕ → TokenPayload → List ℕ
token_for image low high content = sealed_with image (nonce_bytes low high) content

-- the two parts of a token, and the low half of its nonce
abbrev pub sealed_of : List ℕ → List ℕ
sealed_of t = take (length t - NONCE_LEN) t

abbrev pub nonce_of : List ℕ → List ℕ
nonce_of t = drop (length t - NONCE_LEN) t

unfoldable pub low_of : List ℕ → ℕ
low_of t = from_little_endian (take 8 (nonce_of t))

-- what bytes say of a content, with the fault as a cause; what opened bytes say
abbrev pub decoded : Result TokenPayload Fault → Result TokenPayload Cause
decoded (Ok content) = Ok content
decoded (Err fault) = Err (Undecodable fault)

abbrev pub unsealed : Option (List ℕ) → Result TokenPayload Cause
unsealed None = Err Unopened
unsealed (Some bs) = decoded (decode_content bs)

-- a token is there, and has 16 to 81 bytes
abbrev pub sized : List ℕ → Result (Unit {0}) Cause
sized t = if nat_lt (length t) 1 then Err EmptyToken else if nat_lt (length t) NONCE_LEN || nat_lt MAX_TOKEN_LEN (length t) then Err Unopened else Ok tt

-- what a token says, or why it says nothing
unfoldable pub says : Opening → List ℕ → Result TokenPayload Cause
says opened t = and_then (sized t) (λ _. unsealed (opened (nonce_of t) (sealed_of t)))

-- the working bytes after a call: the first 96 are zero, the others as they were
abbrev pub wiped : List ℕ → List ℕ
wiped working = replicate WORKING_LEN 0 ++ drop WORKING_LEN working

-- n bytes of a token were written to the front of a buffer
pub record TokenWritten (token out out' : List ℕ) (n : ℕ) : Type 0 where
  pub len : n ≡ length token
  pub bound : n ≤ MAX_TOKEN_LEN
  pub after : out' ≡ fronted token out

-- a token was written to the front of a buffer, and the working bytes are zero; or refused, and nothing was written
pub record Wrote (token working working' out out' : List ℕ) (nonce : Nonce) (r : Result ℕ (Refused Nonce)) : Type 0 where
  pub answer : r ≡ (if nat_lt (length out) MAX_TOKEN_LEN then Err (record { refusal = SmallBuffer; back = nonce }) else Ok (length token))
  pub within : IfOk r (λ n. n ≤ MAX_TOKEN_LEN)
  pub after : out' ≡ (if is_ok r then fronted token out else out)
  pub blank : working' ≡ (if is_ok r then replicate WORKING_LEN 0 else working)

-- what reading a token answers: the content that it says, with the low half of its nonce, or why it says nothing
abbrev pub token_read : Opening → List ℕ → Result Token Cause
token_read opened t = and_then (says opened t) (λ content. Ok (record { payload = content; low = low_of t }))

abbrev pub TokenRead : Opening → List ℕ → Result Token Cause → Type 0
TokenRead opened t r = r ≡ token_read opened t
