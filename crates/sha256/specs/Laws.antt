-- What the definitions come to, in the words of FIPS 180-4.
use Rattle.std.specs.Prelude.{◌≡◌, ℕ, ◌+◌, ◌-◌, ◌*◌, ◌%◌, ◌^◌, ◌<◌, ◌≤◌, List, length, slice_index}
use Rattle.sha256.specs.Words.{add, σ0, σ1}
use Rattle.sha256.specs.Constants.{primes, round_constants, initial}
use Rattle.sha256.specs.Block.{word_at, schedule}

-- k is the first 32 bits of the fraction of the e-th root of p: c is that root in units of 2 ^ -32, rounded down
pub record RootFraction (e p k : ℕ) : Type 0 where
  pub c : ℕ
  pub low : c ^ e ≤ p * 2 ^ (32 * e)
  pub high : p * 2 ^ (32 * e) < (c + 1) ^ e
  pub bits : k ≡ c % 2 ^ 32

pub record ConstantsAreRoots : Type 0 where
  pub count : length primes ≡ 64
  pub cubes : (i : ℕ) → i < 64 → RootFraction 3 (slice_index primes i) (slice_index round_constants i)
  pub squares : (i : ℕ) → i < 8 → RootFraction 2 (slice_index primes i) (slice_index initial i)

-- the schedule w of a block: its sixteen words, and each later word from four before it
pub record Scheduled (block w : List ℕ) : Type 0 where
  pub long : length w ≡ 64
  pub first : (t : ℕ) → t < 16 → slice_index w t ≡ word_at block t
  pub later : (t : ℕ) → 16 ≤ t → t < 64 → slice_index w t ≡ add (add (add (σ1 (slice_index w (t - 2))) (slice_index w (t - 7))) (σ0 (slice_index w (t - 15)))) (slice_index w (t - 16))

abbrev pub EverySchedule : Type 0
EverySchedule = (block : List ℕ) → Scheduled block (schedule block)
