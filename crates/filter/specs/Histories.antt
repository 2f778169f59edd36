-- What a filter answers, by the fingerprints it recorded since it was emptied.
use Rattle.std.specs.Prelude.{◌≡◌, ℕ, if◌then◌else◌, List, [], ◌∷◌, ◌++◌, false, length, is_ok, Ok, Err, ◌==◌, nat_le}
use Rattle.answers.specs.declared.FilterCause.TheVariants.{Held, Full}
use Rattle.filter.specs.Filter.{Answer}
use Rattle.filter.specs.Lists.{member}

-- to each list of recorded fingerprints, the first one first, and to a further one, the answer
abbrev pub Says : Type 0
Says = List ℕ → ℕ → Answer

-- the list after f was brought: an accepted one joins it
abbrev pub recorded_with : Says → List ℕ → ℕ → List ℕ
recorded_with says xs f = if is_ok (says xs f) then xs ++ f ∷ [] else xs

-- a set of so many places refuses what it recorded, and everything when full
abbrev pub set_says : ℕ → Says
set_says capacity xs f = if member f xs then Err Held else (if length xs == capacity then Err Full else Ok tt)

-- a turning filter of the sure count c refuses just what it recorded, while that is at most c; then it answers as the
-- other filter, by all that it recorded
abbrev pub turning_says : ℕ → Says → Says
turning_says c other xs f = if nat_le (length xs) c then (if member f xs then Err Held else Ok tt) else other xs f

-- what it refuses may be counted as recorded: no answer is another by that
abbrev pub TakesRefusedAsRecorded : Says → Type 0
TakesRefusedAsRecorded says = (xs ys : List ℕ) (f g : ℕ) → is_ok (says xs f) ≡ false → says (xs ++ (f ∷ ys)) g ≡ says (xs ++ ys) g

-- by a filter's accounts, R of a recording and E of an emptying
module _ {F : Type 0} (R : F → ℕ → Answer → F → Type 0) (E : F → F → Type 0) where
  -- o was emptied, calls led on from there to s, and since the last emptying xs were accepted, in order
  pub data Since (o : F) : List ℕ → F → Type 0 where
    emptied : {s : F} → E o s → Since o [] s
    emptied_again : {xs : List ℕ} {s s' : F} → Since o xs s → E s s' → Since o [] s'
    recorded : {xs : List ℕ} {f : ℕ} {r : Answer} {s s' : F} → Since o xs s → R s f r s' → Since o (if is_ok r then xs ++ f ∷ [] else xs) s'

  -- once it is emptied, o answers so, whatever calls are made of it
  abbrev pub AnswersBy : Says → F → Type 0
  AnswersBy says o = (xs : List ℕ) (s s' : F) (f : ℕ) (r : Answer) → Since o xs s → R s f r s' → r ≡ says xs f
