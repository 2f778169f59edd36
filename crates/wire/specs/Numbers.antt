-- Numbers of a fixed width as bytes. Bytes that stand with the highest first write `number 256 bytes`.
use Rattle.std.specs.Prelude.{ℕ, zero, suc, ◌+◌, ◌*◌, ◌/◌, ◌%◌, List, [], ◌∷◌, ◌++◌}
use Rattle.std.specs.Int.Digits.{AllBelowBase}

-- numbers below 256, as in every slice of bytes
abbrev pub Bytes : List ℕ → Type 0
Bytes bs = AllBelowBase 256 bs

-- the number n in so many bytes, the highest first
abbrev pub big_endian : ℕ → ℕ → List ℕ
big_endian zero n = []
big_endian (suc width) n = big_endian width (n / 256) ++ (n % 256 ∷ [])

-- the number n in so many bytes, the lowest first; and the number that bytes write so
abbrev pub little_endian : ℕ → ℕ → List ℕ
little_endian zero n = []
little_endian (suc width) n = n % 256 ∷ little_endian width (n / 256)

abbrev pub from_little_endian : List ℕ → ℕ
from_little_endian [] = 0
from_little_endian (b ∷ bs) = b + 256 * from_little_endian bs
