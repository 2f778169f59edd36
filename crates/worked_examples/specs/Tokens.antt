-- Worked examples of contents, tokens and arrivals, under the bench scheme with a key of zeros.
use Rattle.std.specs.Prelude.{◌≡◌, ℕ, List, [], ◌∷◌, length, replicate, Some, Ok}
use Rattle.answers.specs.declared.Cause.TheVariants.{RetryExpired}
use Rattle.wire.specs.declared.types.IpAddr.{IpAddr}
use Rattle.wire.specs.declared.types.IpAddr.TheVariants.{V4, V6}
use Rattle.wire.specs.declared.types.TokenPayload.{TokenPayload}
use Rattle.wire.specs.Content.{encode_content}
use Rattle.wire.specs.declared.types.TokenPayload.TheVariants.{Retry, Validation}
use Rattle.sealing.specs.Sealing.{Image}
use Rattle.sealing.specs.Bench.{check_bytes}
use Rattle.sealing.specs.Tagged.{tagged_image, tagged_opened}
use Rattle.sealing.specs.Tokens.{token_for}
use Rattle.gate.specs.Calls.{Terms, Arrival, verdict_number, judge}
use Rattle.gate.specs.declared.verdict.Verdict.TheVariants.{Validated, Rejected}
use Rattle.gate.specs.Calls.Judged.{settled}

abbrev pub key : List ℕ
key = replicate 16 0

abbrev pub sealed : Image
sealed = tagged_image (check_bytes key)

-- 192.0.2.7
abbrev pub cab : IpAddr
cab = V4 (192 ∷ 0 ∷ 2 ∷ 7 ∷ [])

-- a retry content for port 4433 with the id AA BB
abbrev pub again : ℕ → TokenPayload
again seconds = Retry (record { ip = cab; port = 4433 }) (0xaa ∷ 0xbb ∷ []) seconds

-- the longest content: a retry over IPv6 with an id of 20 bytes
abbrev pub longest : TokenPayload
longest = Retry (record { ip = V6 (replicate 16 1); port = 4433 }) (replicate 20 2) 1

-- retry tokens are good for 15 s; a token that was issued at 100 s arrives at some time
abbrev pub terms : Terms
terms = record { image = sealed; opened = tagged_opened (check_bytes key); retry = 15000000000; validation = 20000000000 }

abbrev pub arriving : ℕ → Arrival
arriving clock =
    record { token = token_for sealed 7 9 (again 100); destination = 5 ∷ []; address = record { ip = cab; port = 4433 }; clock = clock; working = 96 }

pub record TokenExamples : Type 0 where
  pub content : encode_content (Validation cab 1000) ≡ 0x01 ∷ 0x00 ∷ 0xc0 ∷ 0x00 ∷ 0x02 ∷ 0x07 ∷ 0x00 ∷ 0x00 ∷ 0x00 ∷ 0x00 ∷ 0x00 ∷ 0x00 ∷ 0x03 ∷ 0xe8 ∷ []
  pub retried : encode_content (again 1) ≡ 0x00 ∷ 0x00 ∷ 0xc0 ∷ 0x00 ∷ 0x02 ∷ 0x07 ∷ 0x11 ∷ 0x51 ∷ 0x02 ∷ 0xaa ∷ 0xbb ∷ 0x00 ∷ 0x00 ∷ 0x00 ∷ 0x00 ∷ 0x00 ∷ 0x00 ∷ 0x00 ∷ 0x01 ∷ []
  pub length46 : length (token_for sealed 7 9 (Validation cab 1000)) ≡ 46
  pub length81 : length (token_for sealed 7 9 longest) ≡ 81
  pub at_expiry : judge terms (arriving 115000000000) ≡ Ok (settled (Validated (Some (5 ∷ [])) (0xaa ∷ 0xbb ∷ [])))
  pub past_expiry : judge terms (arriving 115000000001) ≡ Ok (settled (Rejected RetryExpired))
  pub numbered : verdict_number (Rejected RetryExpired) ≡ 32
