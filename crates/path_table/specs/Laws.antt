-- Successions of calls on one table from new, and what every one of them keeps.
use Rattle.std.specs.Prelude.{◌≡◌, ◌≢◌, ◌↔◌, ℕ, ◌+◌, ◌-◌, ◌*◌, ◌<◌, ◌≤◌, Bool, true, false, ◌||◌, List, [], ◌∷◌, replicate, min, None, Ok, Err, Result, ◌==◌, if◌then◌else◌}
use Rattle.answers.specs.declared.Refusal.{Refusal}
use Rattle.answers.specs.declared.Refused.{Refused}
use Rattle.answers.specs.declared.Refusal.TheVariants.{NoPath}
use Rattle.answers.specs.Successions.{Succession, Each}
use Rattle.path_table.specs.declared.meter.TheConstants.{AMPLIFICATION_FACTOR, MAX_COUNTED_BYTES, MAX_GRANTED_BYTES, MAX_OPEN_GRANTS}
use Rattle.path_table.specs.Paths.{Paths, Opens, Act, Turns}
use Rattle.path_table.specs.Paths.Act.{validates, receives, grants, spends, closes}

-- a call: what it brought, and what it was answered; an opening is answered the path's name
pub data Call : Type 0 where
  opening : (validated : Bool) → Result ℕ Refusal → Call
  turning : (path : ℕ) → Act → Result (Unit {0}) Refusal → Call

-- the answer of a call, by what it hands out or gives back
abbrev pub done : {X : Type 0} → Result X Refusal → Result (Unit {0}) Refusal
done (Ok x) = Ok tt
done (Err e) = Err e

abbrev pub given : {X : Type 0} → Result (Unit {0}) (Refused X) → Result (Unit {0}) Refusal
given (Ok u) = Ok u
given (Err r) = Err r.refusal

-- one call on a table
abbrev pub Step : Paths → Call → Paths → Type 0
Step ps (opening v r) ps' = Opens v ps ps' r
Step ps (turning p a r) ps' = Turns p a ps ps' r

-- what was done to the path p since it was last opened, the newest first, calls that were refused left out; and whether it
-- was opened validated
abbrev pub more : Act → Result (Unit {0}) Refusal → List Act → List Act
more a (Ok u) acts = a ∷ acts
more a (Err e) acts = acts

abbrev pub since : ℕ → List Call → List Act
since p [] = []
since p (opening v (Ok q) ∷ xs) = if q == p then [] else since p xs
since p (opening v (Err e) ∷ xs) = since p xs
since p (turning q a r ∷ xs) = if q == p then more a r (since p xs) else since p xs

abbrev pub opened_validated : ℕ → List Call → Bool
opened_validated p [] = false
opened_validated p (opening v (Ok q) ∷ xs) = if q == p then v else opened_validated p xs
opened_validated p (opening v (Err e) ∷ xs) = opened_validated p xs
opened_validated p (turning q a r ∷ xs) = opened_validated p xs

-- of these: whether one validates; the bytes received, those of grants, those sent, and those returned; how many grants there
-- are, and how many were used up
abbrev pub validating : List Act → Bool
validating [] = false
validating (validates ∷ acts) = true
validating (receives n ∷ acts) = validating acts
validating (grants n ∷ acts) = validating acts
validating (spends q n k ∷ acts) = validating acts
validating (closes ∷ acts) = validating acts

abbrev pub received : List Act → ℕ
received [] = 0
received (validates ∷ acts) = received acts
received (receives n ∷ acts) = n + received acts
received (grants n ∷ acts) = received acts
received (spends q n k ∷ acts) = received acts
received (closes ∷ acts) = received acts

abbrev pub granted : List Act → ℕ
granted [] = 0
granted (validates ∷ acts) = granted acts
granted (receives n ∷ acts) = granted acts
granted (grants n ∷ acts) = n + granted acts
granted (spends q n k ∷ acts) = granted acts
granted (closes ∷ acts) = granted acts

abbrev pub sent : List Act → ℕ
sent [] = 0
sent (validates ∷ acts) = sent acts
sent (receives n ∷ acts) = sent acts
sent (grants n ∷ acts) = sent acts
sent (spends q n k ∷ acts) = k + sent acts
sent (closes ∷ acts) = sent acts

abbrev pub returned : List Act → ℕ
returned [] = 0
returned (validates ∷ acts) = returned acts
returned (receives n ∷ acts) = returned acts
returned (grants n ∷ acts) = returned acts
returned (spends q n k ∷ acts) = (n - k) + returned acts
returned (closes ∷ acts) = returned acts

abbrev pub grants_given : List Act → ℕ
grants_given [] = 0
grants_given (validates ∷ acts) = grants_given acts
grants_given (receives n ∷ acts) = grants_given acts
grants_given (grants n ∷ acts) = 1 + grants_given acts
grants_given (spends q n k ∷ acts) = grants_given acts
grants_given (closes ∷ acts) = grants_given acts

abbrev pub grants_used_up : List Act → ℕ
grants_used_up [] = 0
grants_used_up (validates ∷ acts) = grants_used_up acts
grants_used_up (receives n ∷ acts) = grants_used_up acts
grants_used_up (grants n ∷ acts) = grants_used_up acts
grants_used_up (spends q n k ∷ acts) = 1 + grants_used_up acts
grants_used_up (closes ∷ acts) = grants_used_up acts

abbrev pub open_grants : List Act → ℕ
open_grants acts = grants_given acts - grants_used_up acts

-- bytes counted: those received, up to the most; bytes in open grants: those granted, neither sent nor returned
abbrev pub counted : List Act → ℕ
counted acts = min (received acts) MAX_COUNTED_BYTES

abbrev pub in_open_grants : List Act → ℕ
in_open_grants acts = granted acts - (sent acts + returned acts)

-- none is sent or returned that was not granted, and what is sent and what is in open grants is within the allowance
pub record Within (acts : List Act) : Type 0 where
  pub of_grants : sent acts + returned acts ≤ granted acts
  pub bound : sent acts + in_open_grants acts ≤ AMPLIFICATION_FACTOR * counted acts

abbrev pub unvalidated : ℕ → List Call → Type 0
unvalidated p xs = (opened_validated p xs || validating (since p xs)) ≡ false

-- after each call of every succession, on each path that is not validated
abbrev pub NeverTooMuch : Paths → Type 0
NeverTooMuch ps =
    (n : ℕ) (xs : List Call) → Succession Step (replicate n None) xs ps → Each (λ x earlier. (p : ℕ) → unvalidated p (x ∷ earlier) → Within (since p (x ∷ earlier))) xs

-- a grant of n bytes more may be given on the path p
pub record Grantable (p n : ℕ) (xs : List Call) : Type 0 where
  pub size : n ≤ MAX_GRANTED_BYTES
  pub number : open_grants (since p xs) < MAX_OPEN_GRANTS
  pub allowance : unvalidated p xs → sent (since p xs) + in_open_grants (since p xs) + n ≤ AMPLIFICATION_FACTOR * counted (since p xs)

-- a call that is not refused for its path: a grant is given just where it may be, and a path closes just where no grant is open
abbrev pub Fair : Call → List Call → Type 0
Fair (opening v r) earlier = Unit {0}
Fair (turning p validates r) earlier = Unit {0}
Fair (turning p (receives n) r) earlier = Unit {0}
Fair (turning p (grants n) r) earlier = r ≢ Err NoPath → (r ≡ Ok tt) ↔ Grantable p n earlier
Fair (turning p (spends q n k) r) earlier = Unit {0}
Fair (turning p closes r) earlier = r ≢ Err NoPath → (r ≡ Ok tt) ↔ (open_grants (since p earlier) ≡ 0)

abbrev pub AlwaysFair : Paths → Type 0
AlwaysFair ps = (n : ℕ) (xs : List Call) → Succession Step (replicate n None) xs ps → Each Fair xs
