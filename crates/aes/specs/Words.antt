-- Words of 32 bits and their bytes, the highest first.
use Rattle.std.specs.Prelude.{ℕ, ◌+◌, ◌*◌, ◌/◌, ◌%◌, List, [], ◌∷◌, slice_index}

-- the four bytes f 0 to f 3
abbrev pub four : (ℕ → ℕ) → List ℕ
four f = f 0 ∷ f 1 ∷ f 2 ∷ f 3 ∷ []

-- the bytes of a word, the highest first
abbrev pub bytes_of : ℕ → List ℕ
bytes_of x = (x / 16777216 % 256) ∷ (x / 65536 % 256) ∷ (x / 256 % 256) ∷ (x % 256) ∷ []

-- the word of four bytes, the highest first
abbrev pub word : List ℕ → ℕ
word b = slice_index b 0 * 16777216 + slice_index b 1 * 65536 + slice_index b 2 * 256 + slice_index b 3
