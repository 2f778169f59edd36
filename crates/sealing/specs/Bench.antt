-- The tag of the bench scheme: sixteen check bytes.
use Rattle.std.specs.Prelude.{ℕ, suc, ◌+◌, ◌%◌, List, [], ◌∷◌, map, ◌==◌, slice_index, if◌then◌else◌}
use Rattle.std.specs.List.{range_with_len}

-- the sum of the bytes whose place, counted from at, leaves j modulo sixteen
unfoldable pub column : ℕ → ℕ → List ℕ → ℕ
column at j [] = 0
column at j (b ∷ bs) = (if at % 16 == j then b else 0) + column (suc at) j bs

-- the check byte j
unfoldable pub check_byte : List ℕ → List ℕ → List ℕ → ℕ → ℕ
check_byte key nonce content j = (slice_index key j + slice_index nonce j + column 0 j content) % 256

unfoldable pub check_bytes : List ℕ → List ℕ → List ℕ → List ℕ
check_bytes key nonce content = map (check_byte key nonce content) (range_with_len 0 16)
