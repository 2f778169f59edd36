-- The constants are root fractions.
use Rattle.std.proofs.Common.{◌≡◌, ℕ, zero, suc, ◌+◌, ◌*◌, ◌^◌, ◌<◌, ◌≤◌, Bool, true, false, if◌then◌else◌, T, map, length, take, sym, refl, ap, ◌∙◌, subst, add_assoc, arith, ltb→lt, leb→le, nat_le, nat_lt, slice_index}
use native.Mathlib.Nat.{two-pow-succ}
use Rattle.std.proofs.lemmas.List.{get_or-map, get_or-take}
use Rattle.std.proofs.lemmas.Bool.{leb-false}
use Rattle.answers.proofs.Tables.{every, at_each}
use Rattle.sha256.specs.Constants.{primes, root_from, fraction, round_constants, initial}
use Rattle.sha256.specs.Laws.{RootFraction, ConstantsAreRoots}

-- one bit of the root
low_step : (b : Bool) (x y e n : ℕ) → (T b → x ^ e ≤ n) → y ^ e ≤ n → (if b then x else y) ^ e ≤ n
low_step true x y e n f h = f tt
low_step false x y e n f h = h

high_step : (b : Bool) (c d e n : ℕ) → (b ≡ false → n < (c + d) ^ e) → n < (c + d + d) ^ e → n < ((if b then c + d else c) + d) ^ e
high_step true c d e n f h = h
high_step false c d e n f h = f refl

root_low : (e n bits c : ℕ) → c ^ e ≤ n → root_from e n bits c ^ e ≤ n
root_low e n zero c h = h
root_low e n (suc bits) c h =
    let more = (c + 2 ^ bits) ^ e in
    root_low e n bits (if nat_le more n then c + 2 ^ bits else c) (low_step (nat_le more n) (c + 2 ^ bits) c e n (leb→le more n) h)

root_high : (e n bits c : ℕ) → n < (c + 2 ^ bits) ^ e → n < (root_from e n bits c + 1) ^ e
root_high e n zero c h = h
root_high e n (suc bits) c h =
    let more = (c + 2 ^ bits) ^ e in
    let twice : c + 2 ^ suc bits ≡ c + 2 ^ bits + 2 ^ bits = ap (λ (z : ℕ). c + z) (two-pow-succ bits) ∙ sym (add_assoc c (2 ^ bits) (2 ^ bits)) in
    root_high e n bits (if nat_le more n then c + 2 ^ bits else c)
    (high_step (nat_le more n) c (2 ^ bits) e n (leb-false more n) (subst (λ (z : ℕ). n < z ^ e) twice h))

is_fraction : (e p : ℕ) → 0 ^ e ≤ p * 2 ^ (32 * e) → p * 2 ^ (32 * e) < (0 + 2 ^ 35) ^ e → RootFraction e p (fraction e p)
is_fraction e p l h =
    let n = p * 2 ^ (32 * e) in
    record { c = root_from e n 35 0; low = root_low e n 35 0 l; high = root_high e n 35 0 h; bits = refl }

-- the roots are below 8
small : ℕ → ℕ → ℕ → Bool
small e i p = nat_lt (p * 2 ^ (32 * e)) ((0 + 2 ^ 35) ^ e)

cubes_small : T (every (small 3) 0 primes)
unfolding primes small
cubes_small = tt

squares_small : T (every (small 2) 0 (take 8 primes))
unfolding primes small
squares_small = tt

count : length primes ≡ 64
unfolding primes
count = refl

eight : length (take 8 primes) ≡ 8
unfolding primes
eight = refl

pub roots : ConstantsAreRoots
unfolding small round_constants initial
roots =
    record {
      count = count;
      cubes = λ i h.
          let l : i < length primes = omega (arith, count) in
          subst (RootFraction 3 (slice_index primes i)) (sym (get_or-map (fraction 3) primes i 0 0 l))
          (is_fraction 3 (slice_index primes i) (omega arith) (ltb→lt _ _ (at_each (small 3) primes cubes_small i l)));
      squares = λ i h.
          let l : i < length (take 8 primes) = omega (arith, eight) in
          let same : slice_index (take 8 primes) i ≡ slice_index primes i = get_or-take 8 primes i 0 h in
          subst (λ (p : ℕ). RootFraction 2 p (slice_index (map (fraction 2) (take 8 primes)) i)) same
          (subst (RootFraction 2 (slice_index (take 8 primes) i)) (sym (get_or-map (fraction 2) (take 8 primes) i 0 0 l))
          (is_fraction 2 (slice_index (take 8 primes) i) (omega arith) (ltb→lt _ _ (at_each (small 2) (take 8 primes) squares_small i l))));
    }
