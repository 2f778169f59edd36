-- What a Bloom filter answers, by the fingerprints it recorded since it was emptied.
use Rattle.std.specs.Prelude.{ℕ, ◌%◌, Bool, false, if◌then◌else◌, ◌||◌, List, [], ◌∷◌, Ok, Err}
use Rattle.std.specs.List.{list_all}
use Rattle.answers.specs.declared.FilterCause.TheVariants.{Held}
use Rattle.filter.specs.Lists.{member}
use Rattle.filter.specs.Histories.{Says}
use Rattle.bloom.specs.Bits.{step, ahead}

-- the k positions of a fingerprint among m bits
abbrev pub positions : ℕ → ℕ → ℕ → List ℕ
positions m k f = ahead m (step m f) (f % m) k

-- whether p is a position of one of them
abbrev pub marked : ℕ → ℕ → List ℕ → ℕ → Bool
marked m k [] p = false
marked m k (x ∷ xs) p = member p (positions m k x) || marked m k xs p

-- it refuses just what has all its k positions among those of the fingerprints it recorded
abbrev pub bloom_says : ℕ → ℕ → Says
bloom_says m k xs f = if list_all (marked m k xs) (positions m k f) then Err Held else Ok tt
