-- Half the bits for so many hits are divided as all of them for twice as many: a division sees only the fraction.
use Rattle.std.proofs.Common.{◌≡◌, ℕ, ◌*◌, ◌^◌, ◌<◌, true, false, cond, nat_eq, max, sym, ap, ◌∙◌, le_of_lt, mul-pos, arith}
use lib.Ieee.{Float, nan, inf, fin, binary64, up, down, mul, div, round, of_int, to_unsigned}
use Rattle.std.specs.Float.{float_round}
use Rattle.std.proofs.lemmas.Bool.{false≢true, ne_eqb}
use lib.Ieee.Exact.{HasValue}
use lib.Ieee.Back.{round_whole}
use lib.Ieee.Fits.{down_pos}
use lib.Ieee.Scale.{round_same}
use Rattle.bloom.specs.HashCount.{ln2, float, hash_count, hash_count_by_half}

-- a number of at most 53 bits is a float
whole : (n : ℕ) → n < 2 ^ 53 → HasValue (float n) false n 1
unfolding of_int
whole n h = round_whole binary64 false n (le_of_lt h)

-- a ÷ b of whole numbers is their fraction, rounded
div_at : (x y : Float) (a b : ℕ) → 0 < b → HasValue x false a 1 → HasValue y false b 1 → div binary64 x y ≡ round binary64 false a b
unfolding div
div_at nan y a b p v w = absurd v
div_at (inf s) y a b p v w = absurd v
div_at (fin s m e) nan a b p v w = absurd w
div_at (fin s m e) (inf t) a b p v w = absurd w
div_at (fin true m e) (fin t n d) a b p v w = absurd (false≢true (sym v.0))
div_at (fin false m e) (fin true n d) a b p v w = absurd (false≢true (sym w.0))
div_at (fin false m e) (fin false n d) a b p v w =
    let some : 0 < n * up d = omega (arith, w.1, mul-pos p (down_pos d)) in
    ap (λ z. cond z (cond (nat_eq m 0) nan (inf false)) (round binary64 false (m * up e * down d) (n * up d * down e))) (ne_eqb n 0 (λ (z : n ≡ 0). absurd (omega (arith, some, ap (λ x. x * up d) z))))
    ∙ round_same binary64 false (m * up e * down d) (n * up d * down e) a b (mul-pos some (down_pos e)) p
    (omega (arith, ap (λ z. z * (down d * b)) v.1, ap (λ z. z * (a * down e)) w.1))

div_same : (a b c d : ℕ) → a < 2 ^ 53 → b < 2 ^ 53 → c < 2 ^ 53 → d < 2 ^ 53 → 0 < b → 0 < d → a * d ≡ c * b → div binary64 (float a) (float b) ≡ div binary64 (float c) (float d)
div_same a b c d A B C D p q e =
    div_at (float a) (float b) a b p (whole a A) (whole b B)
    ∙ round_same binary64 false a b c d p q e
    ∙ sym (div_at (float c) (float d) c d q (whole c C) (whole d D))

pub by_half_as_for_twice : (budget hits : ℕ) → budget < 2 ^ 32 → hits < 2 ^ 32 → hash_count_by_half budget hits ≡ hash_count budget (max hits 1 * 2)
by_half_as_for_twice budget hits b h =
    let n : ℕ = max hits 1 in
    let twice : max (n * 2) 1 ≡ n * 2 = omega arith in
    ap (λ ratio. max (to_unsigned 32 (float_round binary64 (mul binary64 ratio ln2))) 1)
    (div_same (budget * 4) n (budget * 8) (max (n * 2) 1) (omega arith) (omega arith) (omega arith) (omega arith) (omega arith) (omega arith)
    (ap (λ z. budget * 4 * z) twice ∙ omega arith))
