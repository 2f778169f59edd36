-- An index into a list of fingerprints: buckets, each a chain of places that leads to earlier ones.
use Rattle.std.specs.Prelude.{◌≡◌, ℕ, zero, suc, ◌-◌, ◌<◌, if◌then◌else◌, List, length, ◌==◌, bit_and, slice_index}

-- the bucket of a fingerprint among m: its lowest bits, where m is a power of 2
abbrev pub bucket : ℕ → ℕ → ℕ
bucket m f = bit_and f (m - 1)

-- of the places below n, one more than the last whose fingerprint is in bucket b of m; 0 where there is none
unfoldable pub latest : ℕ → List ℕ → ℕ → ℕ → ℕ
latest m xs b zero = 0
latest m xs b (suc n) = if bucket m (slice_index xs n) == b then suc n else latest m xs b n

-- the head of each bucket is its last place
abbrev pub Headed : List ℕ → List ℕ → Type 0
Headed held heads = (b : ℕ) → b < length heads → slice_index heads b ≡ latest (length heads) held b (length held)

-- each place links to the last one before it in its bucket
abbrev pub Chained : List ℕ → List ℕ → List ℕ → Type 0
Chained held heads links = (p : ℕ) → p < length held → slice_index links p ≡ latest (length heads) held (bucket (length heads) (slice_index held p)) p
