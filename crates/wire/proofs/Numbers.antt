-- Numbers and the bytes that write them.
use Rattle.std.proofs.Common.{◌≡◌, ℕ, zero, suc, ◌+◌, ◌*◌, ◌/◌, ◌%◌, ◌^◌, ◌<◌, List, [], ◌∷◌, ◌++◌, length, get_or, take, drop, sym, refl, ap, ◌∙◌, pow-suc, arith}
use Rattle.std.specs.Int.Digits.{number_from_digits, number_from_digits_after}
use Rattle.std.proofs.lemmas.Int.Digits.{number_push}
use Rattle.std.proofs.ByRecursion.{All-get_or, All-from_get_or, All-take, All-append}
use Rattle.std.proofs.lemmas.List.{at_drop_more, take_more, take_all, length_push, length-take-le}
use Rattle.wire.specs.Numbers.{Bytes, big_endian, little_endian, from_little_endian}

pub length_big : (width n : ℕ) → length (big_endian width n) ≡ width
length_big zero n = refl
length_big (suc width) n = length_push (big_endian width (n / 256)) (n % 256) ∙ rw (length_big width (n / 256)) (omega arith)

pub bytes_from : (bs : List ℕ) → ((i : ℕ) → get_or bs i 0 < 256) → Bytes bs
bytes_from bs h = All-from_get_or (λ b. b < 256) bs 0 (λ i inside. h i)

-- the bytes of a number are bytes
pub big_bytes : (width n : ℕ) → Bytes (big_endian width n)
big_bytes zero n = tt
big_bytes (suc width) n = All-append (λ x. x < 256) (big_endian width (n / 256)) (n % 256 ∷ []) (big_bytes width (n / 256)) (omega arith, tt)

-- the bytes of a number write that number
pub big_back : (width n : ℕ) → n < 256 ^ width → number_from_digits 256 (big_endian width n) ≡ n
big_back zero n h = omega arith
big_back (suc width) n h =
    let p = pow-suc 256 width in
    let e = big_back width (n / 256) (omega arith) in
    omega (arith, e, number_push 256 (big_endian width (n / 256)) (n % 256))

-- bytes are those of the number that they write
pub big_only : (width : ℕ) (bs : List ℕ) → length bs ≡ width → Bytes bs → big_endian width (number_from_digits 256 bs) ≡ bs
big_only zero [] l b = refl
big_only zero (x ∷ bs) l b = absurd (omega arith)
big_only (suc width) bs l b =
    let last : ℕ = get_or bs width 0 in
    let front : List ℕ = take width bs in
    let small : last < 256 = All-get_or (λ x. x < 256) bs width 0 (omega arith) b in
    let split : bs ≡ front ++ (last ∷ []) = sym (take_all (width + 1) bs (omega arith)) ∙ take_more bs width 0 (omega arith) in
    let value : number_from_digits 256 bs ≡ number_from_digits 256 front * 256 + last = ap (number_from_digits 256) split ∙ number_push 256 front last in
    let high : number_from_digits 256 bs / 256 ≡ number_from_digits 256 front = omega arith in
    let low : number_from_digits 256 bs % 256 ≡ last = omega arith in
    let rest = big_only width front (length-take-le width bs (omega arith)) (All-take (λ x. x < 256) width bs b) in
    rw (high, low, rest) (sym split)

-- the library reads eight bytes as such a number
more : (before : ℕ) (o : List ℕ) (i : ℕ) → i < length o → number_from_digits_after 256 before (drop i o) ≡ number_from_digits_after 256 (before * 256 + get_or o i 0) (drop (i + 1) o)
more before o i h = at_drop_more (number_from_digits_after 256 before) o i 0 h

pub length_little : (width n : ℕ) → length (little_endian width n) ≡ width
length_little zero n = refl
length_little (suc width) n = ap suc (length_little width (n / 256))

pub little_bytes : (width n : ℕ) → Bytes (little_endian width n)
little_bytes zero n = tt
little_bytes (suc width) n = (omega arith, little_bytes width (n / 256))

pub little_back : (width n : ℕ) → n < 256 ^ width → from_little_endian (little_endian width n) ≡ n
little_back zero n h = omega arith
little_back (suc width) n h = let p = pow-suc 256 width in let e = little_back width (n / 256) (omega arith) in omega (arith, e)

pub little_only : (width : ℕ) (bs : List ℕ) → length bs ≡ width → Bytes bs → little_endian width (from_little_endian bs) ≡ bs
little_only zero [] l b = refl
little_only zero (x ∷ bs) l b = absurd (omega arith)
little_only (suc width) [] l b = absurd (omega arith)
little_only (suc width) (x ∷ bs) l b =
    let n : ℕ = x + 256 * from_little_endian bs in
    let small : x < 256 = b.0 in
    let low : n % 256 ≡ x = omega arith in
    let high : n / 256 ≡ from_little_endian bs = omega arith in
    rw (low, high, little_only width bs (omega arith) b.1)

pub little_below : (bs : List ℕ) → Bytes bs → from_little_endian bs < 256 ^ length bs
little_below [] b = omega arith
little_below (x ∷ bs) b =
    let small : x < 256 = b.0 in
    let p = pow-suc 256 (length bs) in
    let rest = little_below bs b.1 in
    omega arith

-- the library writes eight bytes so
pub write_8 : (n : ℕ)
    → n % 256 ∷ n / 256 % 256 ∷ n / 65536 % 256 ∷ n / 16777216 % 256 ∷ n / 4294967296 % 256 ∷ n / 1099511627776 % 256 ∷ n / 281474976710656 % 256 ∷ n / 72057594037927936 % 256 ∷ [] ≡ little_endian 8 n
write_8 n =
    let b : n / 65536 ≡ n / 256 / 256 = omega arith in
    let c : n / 16777216 ≡ n / 256 / 256 / 256 = omega arith in
    let d : n / 4294967296 ≡ n / 256 / 256 / 256 / 256 = omega arith in
    let e : n / 1099511627776 ≡ n / 256 / 256 / 256 / 256 / 256 = omega arith in
    let f : n / 281474976710656 ≡ n / 256 / 256 / 256 / 256 / 256 / 256 = omega arith in
    let g : n / 72057594037927936 ≡ n / 256 / 256 / 256 / 256 / 256 / 256 / 256 = omega arith in
    cc
