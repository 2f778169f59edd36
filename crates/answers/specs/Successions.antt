-- Successions of calls, the newest first.
use Rattle.std.specs.Prelude.{List, [], ◌∷◌, ◌⊎◌}

-- calls that lead from one state to another
pub data Succession {S C : Type 0} (Step : S → C → S → Type 0) (s : S) : List C → S → Type 0 where
  new : Succession Step s [] s
  then : {x : C} {xs : List C} {s' s'' : S} → Succession Step s xs s' → Step s' x s'' → Succession Step s (x ∷ xs) s''

-- P of each call and those before it
abbrev pub Each : {C : Type 0} → (C → List C → Type 0) → List C → Type 0
Each P [] = Unit {0}
Each P (x ∷ xs) = P x xs × Each P xs

-- P of each call, the state that it met, and the calls before it
abbrev pub EachFrom : {S C : Type 0} {Step : S → C → S → Type 0} {s : S} → (S → C → List C → Type 0) → {xs : List C} {s' : S} → Succession Step s xs s' → Type 0
EachFrom P new = Unit {0}
EachFrom P (then {x = x} {xs = xs} {s' = s'} w v) = P s' x xs × EachFrom P w

-- P of some call
abbrev pub Exists : {C : Type 0} → (C → Type 0) → List C → Type 0
Exists P [] = ⊥
Exists P (x ∷ xs) = P x ⊎ Exists P xs

-- every succession that leads to s leads with the call x on to s'
abbrev pub Adds : {S C : Type 0} → (S → C → S → Type 0) → C → S → S → Type 0
Adds {S} {C} Step x s s' = (start : S) (xs : List C) → Succession Step start xs s → Succession Step start (x ∷ xs) s'
