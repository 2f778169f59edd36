-- How much a call changes in words.
use Rattle.std.specs.Prelude.{ℕ, zero, suc, ◌+◌, Bool, not, ◌&&◌, if◌then◌else◌, List, ◌==◌, slice_index}
use Rattle.bloom.specs.Bits.{bit}

-- how many of the numbers below n pass a test
unfoldable pub count_below : (ℕ → Bool) → ℕ → ℕ
count_below test zero = 0
count_below test (suc n) = (if test n then 1 else 0) + count_below test n

-- how many of the first m bits are clear in ws and set in vs
abbrev pub bits_set : ℕ → List ℕ → List ℕ → ℕ
bits_set m ws vs = count_below (λ p. not (bit ws p) && bit vs p) m

-- in how many of the first n places ws and vs have different words
abbrev pub words_altered : ℕ → List ℕ → List ℕ → ℕ
words_altered n ws vs = count_below (λ i. not (slice_index ws i == slice_index vs i)) n
