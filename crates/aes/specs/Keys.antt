-- FIPS 197, section 5.2: the expansion of a key of 32 bytes into 60 words.
use Rattle.std.specs.Prelude.{ℕ, zero, suc, ◌+◌, ◌-◌, ◌*◌, ◌/◌, ◌%◌, if◌then◌else◌, List, [], ◌∷◌, map, replicate, ◌==◌, bit_xor, slice_index, slice_index_or, slice_set}
use Rattle.aes.specs.Field.{xtime, sub}
use Rattle.aes.specs.Words.{four, bytes_of, word}

-- the bytes of a word turned left by one place
unfoldable pub rot_word : ℕ → ℕ
rot_word x = word (four (λ i. slice_index (bytes_of x) ((i + 1) % 4)))

-- each byte of a word substituted
unfoldable pub sub_word : ℕ → ℕ
sub_word x = word (map sub (bytes_of x))

-- the n-th power of x in the field
abbrev pub power : ℕ → ℕ
power zero = 1
power (suc n) = xtime (power n)

-- the round constant j, from 1 on: the byte x^(j - 1), and three zeros
unfoldable pub rcon : ℕ → ℕ
rcon j = word (power (j - 1) ∷ 0 ∷ 0 ∷ 0 ∷ [])

-- what word i takes from the word before it
unfoldable pub temp : List ℕ → ℕ → ℕ
temp w i =
    let before = slice_index_or w (i - 1) 0 in
    if i % 8 == 0 then bit_xor (sub_word (rot_word before)) (rcon (i / 8)) else if i % 8 == 4 then sub_word before else before

-- the i-th word of the key
abbrev pub key_word : List ℕ → ℕ → ℕ
key_word k i = word (slice_index k (4 * i) ∷ slice_index k (4 * i + 1) ∷ slice_index k (4 * i + 2) ∷ slice_index k (4 * i + 3) ∷ [])

-- 60 words, of which the first n are the key's
unfoldable pub key_words : List ℕ → ℕ → List ℕ
key_words k zero = replicate 60 0
key_words k (suc n) = slice_set (key_words k n) n (key_word k n)

-- n more words from place 8 on: each is the exclusive or of the word 8 places before it and of what it takes from the last
unfoldable pub expand : ℕ → List ℕ → List ℕ
expand zero w = w
expand (suc n) w = let v = expand n w in slice_set v (8 + n) (bit_xor (slice_index v n) (temp v (8 + n)))

unfoldable pub key_expansion : List ℕ → List ℕ
key_expansion k = expand 52 (key_words k 8)
