-- FIPS 197, sections 4 and 5.1.1: bytes as the elements of GF(2^8), and the substitution of a byte.
use Rattle.std.specs.Prelude.{ℕ, zero, suc, ◌+◌, ◌*◌, ◌/◌, ◌%◌, ◌^◌, bit_xor}

-- a byte times x, modulo x^8 + x^4 + x^3 + x + 1
abbrev pub xtime : ℕ → ℕ
xtime a = bit_xor (a * 2 % 256) (a / 128 * 0x1b)

-- a times the polynomial of the k lowest bits of b
abbrev pub times : ℕ → ℕ → ℕ → ℕ
times zero a b = 0
times (suc k) a b = bit_xor (b % 2 * a) (times k (xtime a) (b / 2))

-- the product of two bytes
unfoldable pub gmul : ℕ → ℕ → ℕ
gmul a b = times 8 a b

-- the product of n factors: a, and each next one the square of the one before
abbrev pub squares : ℕ → ℕ → ℕ
squares zero a = 1
squares (suc n) a = gmul a (squares n (gmul a a))

-- x^2 · x^4 · x^8 · .. · x^128, which is x^254: the inverse of x, and 0 for 0
unfoldable pub inverse : ℕ → ℕ
inverse x = squares 7 (gmul x x)

-- bit i of b, the lowest first
abbrev pub bit : ℕ → ℕ → ℕ
bit b i = b / 2 ^ i % 2

-- bit i of the affine map: the sum of five bits of b and of bit i of 0x63
abbrev pub affine_bit : ℕ → ℕ → ℕ
affine_bit b i = (bit b i + bit b ((i + 4) % 8) + bit b ((i + 5) % 8) + bit b ((i + 6) % 8) + bit b ((i + 7) % 8) + bit 0x63 i) % 2

-- the number whose n lowest bits are those of the affine map
abbrev pub affine_bits : ℕ → ℕ → ℕ
affine_bits zero b = 0
affine_bits (suc n) b = affine_bits n b + affine_bit b n * 2 ^ n

unfoldable pub affine : ℕ → ℕ
affine b = affine_bits 8 b

-- the substitution of a byte: the affine map of its inverse
unfoldable pub sub : ℕ → ℕ
sub x = affine (inverse x)
