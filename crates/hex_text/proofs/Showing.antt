-- What is written for bytes: two digits each.
use Rattle.std.proofs.Common.{◌≡◌, ℕ, suc, ◌*◌, ◌-◌, ◌&&◌, Some, ap₂, ◌+◌, ◌/◌, ◌%◌, ◌<◌, List, [], ◌∷◌, ◌++◌, length, take, get_or, nat_le, sym, refl, ap, ◌∙◌, arith}
use Rattle.std.specs.Char.{encode_utf8}
use Rattle.std.proofs.lemmas.Bool.{and_from, cond_both, cond-true, cond-false, lt-ltb, le-leb, lt-leb, leb-true, leb-false}
use Rattle.std.proofs.lemmas.List.{take_more}
use Rattle.hex_text.specs.Digits.{glyph_of, hex, digit_of, paired, followed, unhex}

abbrev pub two : ℕ → List ℕ
two b = glyph_of (b / 16) ∷ glyph_of (b % 16) ∷ []

hex-append : (xs ys : List ℕ) → hex (xs ++ ys) ≡ hex xs ++ hex ys
hex-append [] ys = refl
hex-append (x ∷ xs) ys = ap (λ zs. glyph_of (x / 16) ∷ glyph_of (x % 16) ∷ zs) (hex-append xs ys)

pub hex_more : (xs : List ℕ) (i : ℕ) → i < length xs → hex (take i xs) ++ two (get_or xs i 0) ≡ hex (take (i + 1) xs)
hex_more xs i h = sym (hex-append (take i xs) (get_or xs i 0 ∷ [])) ∙ ap hex (sym (take_more xs i 0 h))

-- a digit is one byte of text
pub one_byte : (n : ℕ) → n < 16 → encode_utf8 (glyph_of n) ≡ glyph_of n ∷ []
unfolding encode_utf8
one_byte n h = cond-true _ _ _ (lt-ltb _ _ (cond_both (nat_le n 9) (48 + n) (87 + n) (λ c. c < 128) (λ l. let m = leb-true n 9 l in omega arith) (λ _. omega arith)))

-- a digit that is written reads as what it was
digit_back : (n : ℕ) → n < 16 → digit_of (glyph_of n) ≡ Some n
digit_back n h =
    cond_both (nat_le n 9) (48 + n) (87 + n) (λ c. digit_of c ≡ Some n)
    (λ l.
    let m = leb-true n 9 l in
    let e : 48 + n - 48 ≡ n = omega arith in
    cond-true _ _ _ (and_from _ _ (le-leb 48 (48 + n) (omega arith)) (le-leb (48 + n) 57 (omega arith))) ∙ ap Some e)
    (λ l.
    let m = leb-false n 9 l in
    let e : 87 + n - 87 ≡ n = omega arith in
    cond-false _ _ _ (ap₂ ◌&&◌ (le-leb 48 (87 + n) (omega arith)) (lt-leb (87 + n) 57 (omega arith)))
    ∙ cond-true _ _ _ (and_from _ _ (le-leb 97 (87 + n) (omega arith)) (le-leb (87 + n) 102 (omega arith))) ∙ ap Some e)

pub read_back : (bs : List ℕ) → ((i : ℕ) → get_or bs i 0 < 256) → unhex (hex bs) ≡ Some bs
unfolding unhex
read_back [] h = refl
read_back (b ∷ bs) h =
    let small : b < 256 = h 0 in
    let whole : 16 * (b / 16) + b % 16 ≡ b = omega arith in
    ap₂ followed (ap₂ paired (digit_back (b / 16) (omega arith)) (digit_back (b % 16) (omega arith)) ∙ ap Some whole) (read_back bs (λ i. h (suc i)))
