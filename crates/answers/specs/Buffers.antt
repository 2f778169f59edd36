-- What a call leaves in a buffer that it writes.
use Rattle.std.specs.Prelude.{◌≡◌, ℕ, ◌+◌, List, ◌++◌, length, take, drop, Ok, Err, Result, nat_lt, if◌then◌else◌}
use Rattle.answers.specs.declared.Refusal.{Refusal}
use Rattle.answers.specs.declared.Refusal.TheVariants.{SmallBuffer}

-- the buffer with its front written over by bs, and the rest as it was
abbrev pub fronted : List ℕ → List ℕ → List ℕ
fronted bs out = bs ++ drop (length bs) out

-- bs was written from the front: the answer is its length; or it does not fit, and nothing was written
pub record Written (bs was is : List ℕ) (r : Result ℕ Refusal) : Type 0 where
  pub answer : r ≡ (if nat_lt (length was) (length bs) then Err SmallBuffer else Ok (length bs))
  pub after : is ≡ (if nat_lt (length was) (length bs) then was else fronted bs was)

-- the same from a place on
abbrev pub pasted : List ℕ → ℕ → List ℕ → List ℕ
pasted bs at out = take at out ++ (bs ++ drop (at + length bs) out)

-- bs was put at a place: the buffer from was to is, and the place where bs ends
pub record Put (bs : List ℕ) (at : ℕ) (was is : List ℕ) (end : ℕ) : Type 0 where
  pub ends : end ≡ at + length bs
  pub after : is ≡ pasted bs at was
