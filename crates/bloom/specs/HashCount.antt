-- The number of hash positions, in binary64 of IEEE 754, each step rounded once.
use Rattle.std.specs.Prelude.{ℕ, ◌*◌, max, pos, Float}
use Rattle.std.specs.Float.Ieee as Ieee
use Rattle.std.specs.Float.{binary64}
use Rattle.std.specs.Float as Floats

-- the number nearest to the natural logarithm of 2
abbrev pub ln2 : Float
ln2 = Ieee.of_bits binary64 0x3fe6_2e42_fefa_39ef

abbrev pub float : ℕ → Float
float n = Ieee.of_int binary64 (pos n)

-- (bits ÷ hits) × ln 2, rounded half away from zero, within 32 bits and at least 1; 0 hits count as 1
abbrev pub hashes_for : ℕ → ℕ → ℕ
hashes_for bits hits =
    max (Ieee.to_unsigned 32 (Floats.float_round binary64 (Ieee.mul binary64 (Ieee.div binary64 (float bits) (float (max hits 1))) ln2))) 1

-- by the bits of the whole budget
abbrev pub hash_count : ℕ → ℕ → ℕ
hash_count budget hits = hashes_for (budget * 8) hits

-- by 4 bits for each byte of it, the share of each of two filters
abbrev pub hash_count_by_half : ℕ → ℕ → ℕ
hash_count_by_half budget hits = hashes_for (budget * 4) hits
