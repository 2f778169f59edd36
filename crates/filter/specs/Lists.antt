-- Lists of fingerprints.
use Rattle.std.specs.Prelude.{ℕ, Bool, true, false, if◌then◌else◌, not, ◌&&◌, ◌||◌, List, [], ◌∷◌, length, Some, None, Option, ◌==◌, nat_lt, slice_index}

-- whether f stands in the list
abbrev pub member : ℕ → List ℕ → Bool
member f [] = false
member f (x ∷ xs) = x == f || member f xs

-- whether each stands in it once
abbrev pub distinct : List ℕ → Bool
distinct [] = true
distinct (x ∷ xs) = not (member x xs) && distinct xs

-- what stands at a place, from 0
abbrev pub place : List ℕ → ℕ → Option ℕ
place xs i = if nat_lt i (length xs) then Some (slice_index xs i) else None
