-- The bytes of a word: under an exclusive or, of a word made of bytes, and under rotations.
use Rattle.std.proofs.Common.{◌≡◌, ℕ, ◌+◌, ◌*◌, ◌/◌, ◌%◌, ◌^◌, ◌<◌, [], ◌∷◌, sym, ap, ◌∙◌, ap₂, mul_assoc, add-mul, arith}
use lib.Bits.{bit_or, bit_xor, or_shifted_r, xor_shr, xor_mod}
use Rattle.std.proofs.lemmas.Nat.{shr_high, shr-shr, mod_low, shl_below, pow-add}
use Rattle.aes.specs.Words.{bytes_of, four, word}

listed : {a b c d p q r s : ℕ} → a ≡ p → b ≡ q → c ≡ r → d ≡ s → a ∷ b ∷ c ∷ d ∷ [] ≡ p ∷ q ∷ r ∷ s ∷ []
listed e f g h = cc

-- each byte of an exclusive or is the exclusive or of the bytes
pub bytes_xor : (x y : ℕ) (p q : ℕ → ℕ) → bytes_of x ≡ four p → bytes_of y ≡ four q → bytes_of (bit_xor x y) ≡ four (λ i. bit_xor (p i) (q i))
bytes_xor x y p q e f =
    listed
    (ap (λ (z : ℕ). z % 256) (xor_shr x y 24) ∙ xor_mod (x / 16777216) (y / 16777216) 8)
    (ap (λ (z : ℕ). z % 256) (xor_shr x y 16) ∙ xor_mod (x / 65536) (y / 65536) 8)
    (ap (λ (z : ℕ). z % 256) (xor_shr x y 8) ∙ xor_mod (x / 256) (y / 256) 8)
    (xor_mod x y 8)
    ∙ cc

-- a word has the bytes that it was made of
pub bytes_word : (a b c d : ℕ) → a < 256 → b < 256 → c < 256 → d < 256 → bytes_of (word (a ∷ b ∷ c ∷ d ∷ [])) ≡ a ∷ b ∷ c ∷ d ∷ []
bytes_word a b c d ha hb hc hd = listed (omega arith) (omega arith) (omega arith) (omega arith)

joined : (x y z u a b c d : ℕ) → x ≡ y * 256 + d → y ≡ z * 256 + c → z ≡ u * 256 + b → u ≡ a → x ≡ word (a ∷ b ∷ c ∷ d ∷ [])
joined x y z u a b c d e f g h = omega arith

-- a number of at most 32 bits is made of its bytes
pub word_bytes : (x : ℕ) → x < 4294967296 → x ≡ word (bytes_of x)
word_bytes x h =
    joined x (x / 256) (x / 65536) (x / 16777216) (x / 16777216 % 256) (x / 65536 % 256) (x / 256 % 256) (x % 256)
    (omega arith) (omega (arith, shr-shr x 8 8)) (omega (arith, shr-shr x 16 8)) (omega arith)

moved : (k j h l : ℕ) → (h * 2 ^ k + l) * 2 ^ j ≡ h * 2 ^ (k + j) + l * 2 ^ j
moved k j h l = rw (add-mul, mul_assoc, pow-add)

-- x turned right by k bits, where l are the k low bits and h the j others
turned : (k j h l x y : ℕ) → h < 2 ^ j → l < 2 ^ k → x ≡ h * 2 ^ k + l → y ≡ l * 2 ^ j + h → bit_or (x / 2 ^ k) (x * 2 ^ j % 2 ^ (k + j)) ≡ y
turned k j h l x y hh hl ex ey =
    ap (λ (z : ℕ). bit_or (z / 2 ^ k) (z * 2 ^ j % 2 ^ (k + j))) ex
    ∙ ap₂ bit_or (shr_high h k l hl) (ap (λ (z : ℕ). z % 2 ^ (k + j)) (moved k j h l) ∙ mod_low h (k + j) (l * 2 ^ j) (shl_below l k j hl))
    ∙ or_shifted_r l j h hh ∙ sym ey

-- a word of four bytes turned right by one, two and three bytes
pub turned8 : (a b c d : ℕ) → a < 256 → b < 256 → c < 256 → d < 256
    → let x = word (a ∷ b ∷ c ∷ d ∷ []) in bit_or (x / 256) (x * 16777216 % 4294967296) ≡ word (d ∷ a ∷ b ∷ c ∷ [])
turned8 a b c d ha hb hc hd = turned 8 24 (a * 65536 + b * 256 + c) d _ _ (omega arith) (omega arith) (omega arith) (omega arith)

pub turned16 : (a b c d : ℕ) → a < 256 → b < 256 → c < 256 → d < 256
    → let x = word (a ∷ b ∷ c ∷ d ∷ []) in bit_or (x / 65536) (x * 65536 % 4294967296) ≡ word (c ∷ d ∷ a ∷ b ∷ [])
turned16 a b c d ha hb hc hd = turned 16 16 (a * 256 + b) (c * 256 + d) _ _ (omega arith) (omega arith) (omega arith) (omega arith)

pub turned24 : (a b c d : ℕ) → a < 256 → b < 256 → c < 256 → d < 256
    → let x = word (a ∷ b ∷ c ∷ d ∷ []) in bit_or (x / 16777216) (x * 256 % 4294967296) ≡ word (b ∷ c ∷ d ∷ a ∷ [])
turned24 a b c d ha hb hc hd = turned 24 8 a (b * 65536 + c * 256 + d) _ _ (omega arith) (omega arith) (omega arith) (omega arith)
