-- What the definitions come to, in the words of FIPS 197.
use Rattle.std.specs.Prelude.{◌≡◌, ℕ, ◌-◌, ◌<◌, ◌≤◌, List, length, ◌≢◌, bit_xor, slice_index}
use Rattle.aes.specs.Field.{gmul, inverse, affine, sub}
use Rattle.aes.specs.Cipher.{cipher}
use Rattle.aes.specs.Keys.{key_word, temp, key_expansion}

-- the inverse of a byte is a byte, their product is 1, and 0 has 0; the substitution is the affine image of the inverse, a byte
pub record Inverted (x : ℕ) : Type 0 where
  pub byte : inverse x < 256
  pub product : (x ≢ 0) → gmul x (inverse x) ≡ 1
  pub none : x ≡ 0 → inverse x ≡ 0
  pub image : sub x ≡ affine (inverse x)
  pub small : sub x < 256

abbrev pub TheSubstitutionInverts : Type 0
TheSubstitutionInverts = (x : ℕ) → x < 256 → Inverted x

-- 60 words: the key's eight, and each later one is the exclusive or of the word 8 places before it and of what it takes from the
-- word before it
pub record Expanded (k w : List ℕ) : Type 0 where
  pub long : length w ≡ 60
  pub first : (i : ℕ) → i < 8 → slice_index w i ≡ key_word k i
  pub later : (i : ℕ) → 8 ≤ i → i < 60 → slice_index w i ≡ bit_xor (slice_index w (i - 8)) (temp w i)

abbrev pub TheKeyExpansionFollowsItsRule : Type 0
TheKeyExpansionFollowsItsRule = (k : List ℕ) → Expanded k (key_expansion k)

-- b is 16 bytes
pub record Block (b : List ℕ) : Type 0 where
  pub long : length b ≡ 16
  pub bytes : (i : ℕ) → slice_index b i < 256

abbrev pub ACipherIsABlock : Type 0
ACipherIsABlock = (w b : List ℕ) → Block (cipher w b)
