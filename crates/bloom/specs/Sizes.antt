-- What a byte budget gives to each of two generations.
use Rattle.std.specs.Prelude.{◌≡◌, ℕ, zero, suc, ◌+◌, ◌*◌, ◌/◌, ◌^◌, ◌≤◌, Bool, ◌&&◌, max, nat_le, nat_lt}
use Rattle.bloom.specs.declared.bits.TheConstants.{WORD_BITS}
use Rattle.bloom.specs.declared.bloom.TheConstants.{MAX_HASHES}

-- half the budget, rounded down
abbrev pub half : ℕ → ℕ
half budget = budget / 2

-- the words of a Bloom filter: the least number that is at least 1 and at least an eighth of the half
abbrev pub words_for : ℕ → ℕ
words_for budget = max 1 ((half budget + 7) / 8)

-- and its bits
abbrev pub bits_for : ℕ → ℕ
bits_for budget = words_for budget * WORD_BITS

-- from 1 to the most positions
abbrev pub fits_hashes : ℕ → Bool
fits_hashes k = nat_lt 0 k && nat_le k MAX_HASHES

-- the sure counts that a turning filter may have: 0, 3, 7, 14, 28 and on by doubling
abbrev pub sure_count : ℕ → ℕ
sure_count zero = 0
sure_count (suc zero) = 3
sure_count (suc (suc n)) = 7 * 2 ^ n

-- c is the largest of them whose eightfold is at most h
pub record Largest (h c : ℕ) : Type 0 where
  pub one : (n : ℕ) × (c ≡ sure_count n)
  pub fits : c * 8 ≤ h
  pub most : (n : ℕ) → sure_count n * 8 ≤ h → sure_count n ≤ c
