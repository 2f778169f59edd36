-- Calls on a table, and what every succession of them from a new table keeps.
use Rattle.std.specs.Prelude.{◌≡◌, ℕ, suc, ◌≤◌, Bool, true, false, not, nat_le, ◌&&◌, ◌==◌, List, [], ◌∷◌, ◌++◌, length, is_ok, Ok, Err, Result, if◌then◌else◌}
use Rattle.std.specs.Str.{bytes_eq}
use Rattle.std.specs.List.{list_any}
use Rattle.answers.specs.declared.Refusal.{Refusal}
use Rattle.answers.specs.declared.Refusal.TheVariants.{ResetTableFull}
use Rattle.answers.specs.Successions.{Succession, Each}
use Rattle.stateless_reset.specs.declared.TheConstants.{MIN_RESET_LEN}
use Rattle.wire.specs.Numbers.{Bytes}
use Rattle.stateless_reset.specs.Tokens.{Makes}
use Rattle.stateless_reset.specs.Tables.{Table, fresh, last_of, is_reset, Remembers}

-- a call: a token that was given to remember, or a datagram that was asked about; and the answer
pub data Call : Type 0 where
  remembering : List ℕ → Result (Unit {0}) Refusal → Call
  asking : List ℕ → Bool → Call

-- one call, by what `remember` and `is_reset` ensure
abbrev pub Step : Table → Call → Table → Type 0
Step s (remembering t r) s' = Remembers t s s' r
Step s (asking d b) s' = (b ≡ is_reset s.tokens d) × (s' ≡ s)

-- P, at the number of places, of each call and those before it, in every succession from a new table to this one
abbrev pub Throughout : (ℕ → Call → List Call → Type 0) → Table → Type 0
Throughout P s = (places : ℕ) (xs : List Call) → Succession Step (fresh places) xs s → Each (P places) xs

-- whether a call gave a token with these bytes and was not refused; whether one of some calls did
abbrev pub gave : List ℕ → Call → Bool
gave bs (remembering t r) = bytes_eq t bs && is_ok r
gave bs (asking d b) = false

abbrev pub given : List ℕ → List Call → Bool
given bs xs = list_any (gave bs) xs

-- how many different tokens were given by calls that were not refused: each counts with the first call that gave it
abbrev pub different : List Call → ℕ
different [] = 0
different (remembering t (Err e) ∷ xs) = different xs
different (remembering t (Ok u) ∷ xs) = if given t xs then different xs else suc (different xs)
different (asking d b ∷ xs) = different xs

-- a datagram is told to be a reset just if it has 21 bytes at least, and an earlier call gave the last 16
abbrev pub ToldByGivenTokens : ℕ → Call → List Call → Type 0
ToldByGivenTokens places (remembering t r) earlier = Unit {0}
ToldByGivenTokens places (asking d b) earlier = b ≡ (nat_le MIN_RESET_LEN (length d) && given (last_of d) earlier)

-- a token is refused just if no earlier call gave it and as many different ones were given as there are places
abbrev pub RefusedAtItsPlaces : ℕ → Call → List Call → Type 0
RefusedAtItsPlaces places (remembering t r) earlier =
    r ≡ (if not (given t earlier) && different earlier == places then Err ResetTableFull else Ok tt)
RefusedAtItsPlaces places (asking d b) earlier = Unit {0}

-- a token that was made of an id before a restart, and given to a table; one that is made of it afterwards, by the same key, is known
-- at the end of any datagram that is long enough
abbrev pub ARestartedUnitIsKnown : (List ℕ → List ℕ) → Table → Type 0
ARestartedUnitIsKnown signature s =
    (places : ℕ) (xs : List Call) → Succession Step (fresh places) xs s
    → (id w w' v v' token again : List ℕ) → Bytes id → Makes signature id w w' (Ok token) → Makes signature id v v' (Ok again) → given token xs ≡ true
    → (front : List ℕ) → MIN_RESET_LEN ≤ length (front ++ again) → is_reset s.tokens (front ++ again) ≡ true
