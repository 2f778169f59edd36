-- Orders in which the tokens of a name are handed out: of so many, the position of the one that a take gives, the oldest at 0.
use Rattle.std.specs.Prelude.{ℕ, ◌-◌, ◌<◌}

abbrev pub first : ℕ → ℕ
first n = 0

abbrev pub last : ℕ → ℕ
last n = n - 1

-- where there are any, one of them
abbrev pub Within : (ℕ → ℕ) → Type 0
Within p = (n : ℕ) → 0 < n → p n < n
