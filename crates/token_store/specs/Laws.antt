-- Calls of a store that held nothing, and what every succession of them keeps.
use Rattle.std.specs.Prelude.{◌≡◌, ℕ, Bool, true, false, ◌&&◌, List, [], ◌∷◌, take, is_ok, Some, None, Ok, Err, Option, Result, if◌then◌else◌}
use Rattle.std.specs.Str.{bytes_eq}
use Rattle.answers.specs.declared.Refusal.{Refusal}
use Rattle.answers.specs.Successions.{Succession, Adds}
use Rattle.token_store.specs.Store.{Bytes, Holds, Stores, Takes}

-- a call: what it brought, what it was answered, and for a take the buffer before and after
pub data Call : Type 0 where
  insertion : (name token : Bytes) → Result (Unit {0}) Refusal → Call
  taking : (name out out' : Bytes) → Result (Option ℕ) Refusal → Call

-- one call, by what a store holds
abbrev pub Step : {S : Type 0} → (S → Holds) → S → Call → S → Type 0
Step holds s (insertion n t r) s' = Stores n t (holds s) (holds s') r
Step holds s (taking n out out' r) s' = Takes n out out' (holds s) (holds s') r

abbrev pub HoldsNothing : {S : Type 0} → (S → Holds) → S → Type 0
HoldsNothing holds s = (n t : Bytes) → holds s n t ≡ false

-- what a store owes of each call adds it to every succession
pub record EveryCallAdds {S : Type 0} (holds : S → Holds) : Type 0 where
  pub inserts : (s s' : S) (n t : Bytes) (r : Result (Unit {0}) Refusal) → Stores n t (holds s) (holds s') r → Adds (Step holds) (insertion n t r) s s'
  pub takes : (s s' : S) (n out out' : Bytes) (r : Result (Option ℕ) Refusal) → Takes n out out' (holds s) (holds s') r → Adds (Step holds) (taking n out out' r) s s'

-- whether an answer of a take hands out the token t: it stands at the front of the buffer
abbrev pub handed : Bytes → Bytes → Result (Option ℕ) Refusal → Bool
handed t out (Err e) = false
handed t out (Ok None) = false
handed t out (Ok (Some k)) = bytes_eq t (take k out)

-- whether a call hands out t under n; whether it is an insert of t under n that was not refused
abbrev pub takes : Bytes → Bytes → Call → Bool
takes n t (insertion m u r) = false
takes n t (taking m out out' r) = bytes_eq n m && handed t out' r

abbrev pub stores : Bytes → Bytes → Call → Bool
stores n t (insertion m u r) = (bytes_eq n m && bytes_eq t u) && is_ok r
stores n t (taking m out out' r) = false

-- whether, going back, t was stored under n, and not handed out there since
abbrev pub preceded : Bytes → Bytes → List Call → Bool
preceded n t [] = false
preceded n t (x ∷ xs) = if stores n t x then true else if takes n t x then false else preceded n t xs

-- a token that a call hands out under a name was stored there before, and after any earlier call that handed it out
abbrev pub OnlyAsStored : List Call → Type 0
OnlyAsStored [] = Unit {0}
OnlyAsStored (x ∷ xs) = ((n t : Bytes) → takes n t x ≡ true → preceded n t xs ≡ true) × OnlyAsStored xs

abbrev pub ATokenIsTakenOnlyAsOftenAsStored : {S : Type 0} → (S → Holds) → S → Type 0
ATokenIsTakenOnlyAsOftenAsStored {S} holds s = (start : S) (xs : List Call) → HoldsNothing holds start → Succession (Step holds) start xs s → OnlyAsStored xs
