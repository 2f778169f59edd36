-- What a Bloom filter means.
use Rattle.std.specs.Prelude.{ℕ, List}
use Rattle.answers.specs.declared.FilterCause.TheVariants.{Held}
use Rattle.filter.specs.Filter.{Meaning}
use Rattle.bloom.specs.Bits.{all_set}

-- it refuses a fingerprint whose k bits are all set, and nothing is sure
abbrev pub bloom : List ℕ → ℕ → ℕ → Meaning
bloom ws m k = record {
  refuses = λ f. all_set ws m f k;
  cause = λ f. Held;
  sure = 0;
  count = 0;
}
