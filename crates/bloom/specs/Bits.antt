-- Bits in words, and the positions that a fingerprint has among m bits.
use Rattle.std.specs.Prelude.{ℕ, zero, suc, ◌+◌, ◌-◌, ◌/◌, ◌%◌, ◌^◌, Bool, true, ◌&&◌, List, [], ◌∷◌, ◌==◌, bit_or, slice_index, slice_set}
use Rattle.bloom.specs.declared.bits.TheConstants.{WORD_BITS}

-- position p is bit p mod WORD_BITS, the lowest first, of word p ÷ WORD_BITS
abbrev pub bit : List ℕ → ℕ → Bool
bit ws p = slice_index ws (p / WORD_BITS) / 2 ^ (p % WORD_BITS) % 2 == 1

unfoldable pub set_bit : List ℕ → ℕ → List ℕ
set_bit ws p = slice_set ws (p / WORD_BITS) (bit_or (slice_index ws (p / WORD_BITS)) (2 ^ (p % WORD_BITS)))

-- the first position of a fingerprint, and the step to each next one
abbrev pub step : ℕ → ℕ → ℕ
step m f = 1 + f / 2 ^ 32 % (m - 1)

unfoldable pub position : ℕ → ℕ → ℕ → ℕ
position m f zero = f % m
position m f (suc n) = (position m f n + step m f) % m

-- n positions from p on, with a step
unfoldable pub ahead : ℕ → ℕ → ℕ → ℕ → List ℕ
ahead m s p zero = []
ahead m s p (suc n) = p ∷ ahead m s ((p + s) % m) n

-- whether the first n positions of f are all set; the words once they are
unfoldable pub all_set : List ℕ → ℕ → ℕ → ℕ → Bool
all_set ws m f zero = true
all_set ws m f (suc n) = all_set ws m f n && bit ws (position m f n)

unfoldable pub with_set : List ℕ → ℕ → ℕ → ℕ → List ℕ
with_set ws m f zero = ws
with_set ws m f (suc n) = set_bit (with_set ws m f n) (position m f n)
