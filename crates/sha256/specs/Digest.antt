-- Padding and the digest of a message: FIPS 180-4, sections 5.1.1, 5.2.1 and 6.2.2.
use Rattle.std.specs.Prelude.{ℕ, zero, suc, ◌-◌, ◌*◌, ◌/◌, ◌%◌, ◌^◌, List, [], ◌∷◌, ◌++◌, map, length, take, drop, replicate, slice_index}
use Rattle.std.specs.List.{range_with_len}
use Rattle.sha256.specs.Constants.{initial}
use Rattle.sha256.specs.Block.{compressed}

-- a number of 64 bits, the highest byte first
abbrev pub eight_bytes : ℕ → List ℕ
eight_bytes n =
    n / 72057594037927936 % 256 ∷ n / 281474976710656 % 256 ∷ n / 1099511627776 % 256 ∷ n / 4294967296 % 256
    ∷ n / 16777216 % 256 ∷ n / 65536 % 256 ∷ n / 256 % 256 ∷ n % 256 ∷ []

-- what follows a message of n bytes: a one bit, zeros up to 56 bytes modulo 64, and the length in bits
unfoldable pub padding : ℕ → List ℕ
padding n = 0x80 ∷ (replicate ((119 - n % 64) % 64) 0 ++ eight_bytes (n * 8 % 2 ^ 64))

-- the hash value after the first n blocks of bs
abbrev pub block_of : List ℕ → ℕ → List ℕ
block_of bs n = take 64 (drop (64 * n) bs)

unfoldable pub absorbed : ℕ → List ℕ → List ℕ → List ℕ
absorbed zero bs v = v
absorbed (suc n) bs v = compressed (absorbed n bs v) (block_of bs n)

-- the bytes of a hash value: byte i of word i / 4, the highest first
abbrev pub byte_at : List ℕ → ℕ → ℕ
byte_at v i = slice_index v (i / 4) / 2 ^ (24 - 8 * (i % 4)) % 256

unfoldable pub bytes_of : List ℕ → List ℕ
bytes_of v = map (byte_at v) (range_with_len 0 32)

-- the digest of a message of n bytes of which rest is left after the hash value v
unfoldable pub digest_from : List ℕ → ℕ → List ℕ → List ℕ
digest_from v n rest = let bs = rest ++ padding n in bytes_of (absorbed (length bs / 64) bs v)

-- SHA-256 of a message
abbrev pub digest : List ℕ → List ℕ
digest m = digest_from initial (length m) m
