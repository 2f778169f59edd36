-- Worked examples of stateless resets, under the bench key 00 01 .. 0f.
use Rattle.std.specs.Prelude.{◌≡◌, ℕ, true, false, List, [], ◌∷◌, ◌++◌, replicate, Ok, Err}
use Rattle.answers.specs.declared.Refusal.TheVariants.{SmallBuffer, LongConnectionId, ResetTableFull}
use Rattle.sealing.specs.Bench.{check_bytes}
use Rattle.stateless_reset.specs.Tokens.{made}
use Rattle.stateless_reset.specs.Tables.{Table, fresh, is_reset, remembered, remember_answer}

abbrev pub bench_key : List ℕ
bench_key = 0 ∷ 1 ∷ 2 ∷ 3 ∷ 4 ∷ 5 ∷ 6 ∷ 7 ∷ 8 ∷ 9 ∷ 10 ∷ 11 ∷ 12 ∷ 13 ∷ 14 ∷ 15 ∷ []

abbrev pub signature : List ℕ → List ℕ
signature = check_bytes bench_key (replicate 16 0)

-- the id AA BB CC DD, and its token
abbrev pub connection : List ℕ
connection = 0xaa ∷ 0xbb ∷ 0xcc ∷ 0xdd ∷ []

abbrev pub reset_token : List ℕ
reset_token = 0xaa ∷ 0xbc ∷ 0xce ∷ 0xe0 ∷ 4 ∷ 5 ∷ 6 ∷ 7 ∷ 8 ∷ 9 ∷ 10 ∷ 11 ∷ 12 ∷ 13 ∷ 14 ∷ 15 ∷ []

-- a table of one place, to which that token was given
abbrev pub one_place : Table
one_place = remembered reset_token (fresh 1)

pub record ResetExamples : Type 0 where
  pub token : made signature connection 160 ≡ Ok reset_token
  pub small : made signature (replicate 21 0) 159 ≡ Err SmallBuffer
  pub long : made signature (replicate 21 0) 160 ≡ Err LongConnectionId
  pub reset21 : is_reset one_place.tokens (replicate 5 0 ++ reset_token) ≡ true
  pub reset20 : is_reset one_place.tokens (replicate 4 0 ++ reset_token) ≡ false
  pub again : remember_answer reset_token one_place ≡ Ok tt
  pub full : remember_answer (replicate 16 0) one_place ≡ Err ResetTableFull
