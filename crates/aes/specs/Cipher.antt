-- FIPS 197, section 5.1: the cipher of 14 rounds, on a state of 16 bytes.
use Rattle.std.specs.Prelude.{ℕ, zero, suc, ◌+◌, ◌-◌, ◌*◌, ◌%◌, List, [], ◌∷◌, ◌++◌, bit_xor, slice_index}
use Rattle.aes.specs.Field.{gmul, sub}
use Rattle.aes.specs.Words.{four, bytes_of, word}

-- the byte of a state in row r and column c; a state stands column by column
abbrev pub at : List ℕ → ℕ → ℕ → ℕ
at s r c = slice_index s (r + 4 * c)

-- the state with the byte f r c in row r and column c
abbrev pub state : (ℕ → ℕ → ℕ) → List ℕ
state f = four (λ r. f r 0) ++ (four (λ r. f r 1) ++ (four (λ r. f r 2) ++ four (λ r. f r 3)))

abbrev pub sub_bytes : List ℕ → List ℕ
sub_bytes s = state (λ r c. sub (at s r c))

-- row r goes r columns to the left, around the end
abbrev pub shift_rows : List ℕ → List ℕ
shift_rows s = state (λ r c. at s r ((c + r) % 4))

-- the matrix of MixColumns at row r and column k: its first row is 2, 3, 1, 1, and each next one is turned right by one
abbrev pub factor : ℕ → ℕ → ℕ
factor r k = slice_index (2 ∷ 3 ∷ 1 ∷ 1 ∷ []) ((k + 4 - r) % 4)

-- row r of the matrix times the column of the bytes a, b, c and d
abbrev pub mixed : ℕ → ℕ → ℕ → ℕ → ℕ → ℕ
mixed a b c d r =
    bit_xor (bit_xor (bit_xor (gmul (factor r 0) a) (gmul (factor r 1) b)) (gmul (factor r 2) c)) (gmul (factor r 3) d)

-- the first column of the matrix times a byte, as a word
abbrev pub first_column : ℕ → ℕ
first_column a = word (four (λ r. gmul (factor r 0) a))

abbrev pub mix_columns : List ℕ → List ℕ
mix_columns s = state (λ r c. mixed (at s 0 c) (at s 1 c) (at s 2 c) (at s 3 c) r)

-- the bytes of the n-th round key: words 4n to 4n + 3, a column each
abbrev pub round_key : List ℕ → ℕ → List ℕ
round_key w n =
    bytes_of (slice_index w (4 * n)) ++ (bytes_of (slice_index w (4 * n + 1)) ++ (bytes_of (slice_index w (4 * n + 2)) ++ bytes_of (slice_index w (4 * n + 3))))

unfoldable pub add_round_key : List ℕ → ℕ → List ℕ → List ℕ
add_round_key w n s = state (λ r c. bit_xor (at s r c) (at (round_key w n) r c))

unfoldable pub round : List ℕ → ℕ → List ℕ → List ℕ
round w n s = add_round_key w n (mix_columns (shift_rows (sub_bytes s)))

-- the rounds 1 to n, one after the other
unfoldable pub rounds : List ℕ → ℕ → List ℕ → List ℕ
rounds w zero s = s
rounds w (suc n) s = round w (suc n) (rounds w n s)

-- the last round mixes no columns
unfoldable pub cipher : List ℕ → List ℕ → List ℕ
cipher w s = add_round_key w 14 (shift_rows (sub_bytes (rounds w 13 (add_round_key w 0 s))))
