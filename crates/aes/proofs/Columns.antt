-- What each of four bytes adds to a mixed column, and the column.
use Rattle.std.proofs.Common.{◌≡◌, ℕ, ◌*◌, ◌/◌, ◌%◌, ◌<◌, ap, ◌∙◌, lit<}
use lib.Bits.{bit_or, bit_xor}
use Rattle.aes.specs.Field.{gmul}
use Rattle.aes.specs.Words.{bytes_of, four}
use Rattle.aes.specs.Cipher.{factor, mixed, first_column}
use Rattle.aes.proofs.Bounds.{gmul_lt}
use Rattle.aes.proofs.Bytes.{bytes_xor, bytes_word, turned8, turned16, turned24}

one : (s : ℕ) → gmul 1 s < 256
one s = gmul_lt 1 s (lit< tt)

two : (s : ℕ) → gmul 2 s < 256
two s = gmul_lt 2 s (lit< tt)

three : (s : ℕ) → gmul 3 s < 256
three s = gmul_lt 3 s (lit< tt)

-- column k of the matrix times s
abbrev part : ℕ → ℕ → ℕ → ℕ
part k s r = gmul (factor r k) s

pub part0 : (s x : ℕ) → x ≡ first_column s → bytes_of x ≡ four (part 0 s)
part0 s x e = ap bytes_of e ∙ bytes_word _ _ _ _ (two s) (one s) (one s) (three s)

pub part1 : (s x y : ℕ) → x ≡ first_column s → y ≡ bit_or (x / 256) (x * 16777216 % 4294967296) → bytes_of y ≡ four (part 1 s)
part1 s x y e f =
    ap bytes_of (f ∙ ap (λ (w : ℕ). bit_or (w / 256) (w * 16777216 % 4294967296)) e ∙ turned8 _ _ _ _ (two s) (one s) (one s) (three s))
    ∙ bytes_word _ _ _ _ (three s) (two s) (one s) (one s)

pub part2 : (s x y : ℕ) → x ≡ first_column s → y ≡ bit_or (x / 65536) (x * 65536 % 4294967296) → bytes_of y ≡ four (part 2 s)
part2 s x y e f =
    ap bytes_of (f ∙ ap (λ (w : ℕ). bit_or (w / 65536) (w * 65536 % 4294967296)) e ∙ turned16 _ _ _ _ (two s) (one s) (one s) (three s))
    ∙ bytes_word _ _ _ _ (one s) (three s) (two s) (one s)

pub part3 : (s x y : ℕ) → x ≡ first_column s → y ≡ bit_or (x / 16777216) (x * 256 % 4294967296) → bytes_of y ≡ four (part 3 s)
part3 s x y e f =
    ap bytes_of (f ∙ ap (λ (w : ℕ). bit_or (w / 16777216) (w * 256 % 4294967296)) e ∙ turned24 _ _ _ _ (two s) (one s) (one s) (three s))
    ∙ bytes_word _ _ _ _ (one s) (one s) (three s) (two s)

pub column_of : (a b c d x y z u : ℕ)
    → bytes_of x ≡ four (part 0 a) → bytes_of y ≡ four (part 1 b) → bytes_of z ≡ four (part 2 c) → bytes_of u ≡ four (part 3 d)
    → bytes_of (bit_xor (bit_xor (bit_xor x y) z) u) ≡ four (mixed a b c d)
column_of a b c d x y z u ex ey ez eu =
    bytes_xor (bit_xor (bit_xor x y) z) u (λ r. bit_xor (bit_xor (part 0 a r) (part 1 b r)) (part 2 c r)) (part 3 d)
    (bytes_xor (bit_xor x y) z (λ r. bit_xor (part 0 a r) (part 1 b r)) (part 2 c) (bytes_xor x y (part 0 a) (part 1 b) ex ey) ez) eu
