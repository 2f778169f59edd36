-- Products and substitutions are bytes.
use Rattle.std.proofs.Common.{ℕ, zero, suc, ◌*◌, ◌/◌, ◌%◌, ◌<◌, ◌≤◌, arith, lit<}
use lib.Bits.{xor_lt}
use Rattle.std.proofs.lemmas.Nat.{mul-le}
use Rattle.aes.specs.Field.{xtime, times, gmul, affine, inverse, sub}

xtime_lt : (a : ℕ) → a < 256 → xtime a < 256
xtime_lt a h = xor_lt 8 (a * 2 % 256) (a / 128 * 0x1b) (omega arith) (omega arith)

times_lt : (k a b : ℕ) → a < 256 → times k a b < 256
times_lt zero a b h = lit< tt
times_lt (suc k) a b h =
    let e : b % 2 * a ≤ 1 * a = mul-le (b % 2) a 1 a (omega arith) (omega arith) in
    xor_lt 8 (b % 2 * a) (times k (xtime a) (b / 2)) (omega arith) (times_lt k (xtime a) (b / 2) (xtime_lt a h))

pub gmul_lt : (a b : ℕ) → a < 256 → gmul a b < 256
unfolding gmul
gmul_lt a b h = times_lt 8 a b h

affine_lt : (b : ℕ) → affine b < 256
unfolding affine
affine_lt b = omega arith

pub sub_lt : (x : ℕ) → sub x < 256
unfolding sub
sub_lt x = affine_lt (inverse x)
