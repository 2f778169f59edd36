-- The four sure counts.
use Rattle.std.proofs.Common.{ℕ, zero, suc, ◌*◌, ◌^◌, ◌≤◌, refl, arith, pow_pos, pow_mono}
use Rattle.bloom.specs.Sizes.{sure_count, Largest}

none : (n : ℕ) → sure_count n * 8 ≤ 23 → sure_count n ≤ 0
none zero h = omega arith
none (suc zero) h = omega arith
none (suc (suc n)) h = omega (arith, pow_pos n)

three : (n : ℕ) → sure_count n * 8 ≤ 24 → sure_count n ≤ 3
three zero h = omega arith
three (suc zero) h = omega arith
three (suc (suc n)) h = omega (arith, pow_pos n)

-- 14 is too much for 64
seven : (n h : ℕ) → h ≤ 64 → sure_count n * 8 ≤ h → sure_count n ≤ 7
seven zero h l k = omega arith
seven (suc zero) h l k = omega arith
seven (suc (suc zero)) h l k = omega arith
seven (suc (suc (suc n))) h l k = omega (arith, two n)
  where
    two : (n : ℕ) → 2 ≤ 2 ^ suc n
    two n = pow_mono {i = 1} {j = suc n} (omega arith)

pub sure47 : Largest 23 0
sure47 = record { one = (0, refl); fits = omega arith; most = none }

pub sure48 : Largest 24 3
sure48 = record { one = (1, refl); fits = omega arith; most = three }

pub sure112 : Largest 56 7
sure112 = record { one = (2, refl); fits = omega arith; most = λ n. seven n 56 (omega arith) }

pub sure128 : Largest 64 7
sure128 = record { one = (2, refl); fits = omega arith; most = λ n. seven n 64 (omega arith) }
