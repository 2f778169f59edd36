-- The sure counts 0, 3, 7, 14, 28 and on.
use Rattle.std.proofs.Common.{◌≡◌, ℕ, zero, suc, ◌*◌, ◌^◌, ◌<◌, ◌≤◌, ◌⊎◌, ap, ⊎_elim, pow-suc, arith, pow_pos}
use lib.Pow.{pow-lt}
use Rattle.std.proofs.lemmas.Bool.{cases_order}
use Rattle.bloom.specs.Sizes.{sure_count, Largest}

-- a power of 2 that is larger is at least the double
doubled : (i j : ℕ) → i < j → 2 ^ i * 2 ≤ 2 ^ j
doubled i (suc j) h =
    let p = pow-suc 2 j in
    ⊎_elim (λ (e : i ≡ j). omega (arith, ap (λ z. 2 ^ z) e)) (λ (e : (i < j) ⊎ (j < i)). ⊎_elim (λ (l : i < j). omega (arith, pow-lt l)) (λ (l : j < i). absurd (omega arith)) e) (cases_order i j)
doubled i zero h = absurd (omega arith)

below_twice : (h c k n : ℕ) → c ≡ 7 * 2 ^ k → h < c * 16 → sure_count n * 8 ≤ h → sure_count n ≤ c
below_twice h c k zero e l f = omega arith
below_twice h c k (suc zero) e l f = omega (arith, pow_pos k)
below_twice h c k (suc (suc j)) e l f =
    ⊎_elim
    (λ (s : k ≡ j). omega (arith, ap (λ z. 2 ^ z) s))
    (λ s. ⊎_elim (λ (t : k < j). absurd (omega (arith, doubled k j t))) (λ (t : j < k). omega (arith, pow-lt t)) s)
    (cases_order k j)

pub largest_7 : (h c k : ℕ) → c ≡ 7 * 2 ^ k → c * 8 ≤ h → h < c * 16 → Largest h c
largest_7 h c k e f l = record { one = (suc (suc k), e); fits = f; most = λ n g. below_twice h c k n e l g }
