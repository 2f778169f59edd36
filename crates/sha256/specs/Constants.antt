-- The constants of SHA-256: FIPS 180-4, sections 4.2.2 and 5.3.3.
use Rattle.std.specs.Prelude.{ℕ, zero, suc, ◌+◌, ◌-◌, ◌*◌, ◌%◌, ◌^◌, Bool, true, false, if◌then◌else◌, List, [], ◌∷◌, map, take, ◌==◌, nat_le}

-- no number from 2 to d + 1 divides n
abbrev pub undivided : ℕ → ℕ → Bool
undivided zero n = true
undivided (suc d) n = if n % suc (suc d) == 0 then false else undivided d n

abbrev pub is_prime : ℕ → Bool
is_prime n = undivided (n - 2) n

-- the primes among the n numbers from a on
abbrev pub primes_from : ℕ → ℕ → List ℕ
primes_from a zero = []
primes_from a (suc n) = if is_prime a then a ∷ primes_from (suc a) n else primes_from (suc a) n

-- the first 64 primes: the last of them is 311
unfoldable pub primes : List ℕ
primes = primes_from 2 310

-- from c on, the largest number below c + 2 ^ bits whose power e is at most n
abbrev pub root_from : ℕ → ℕ → ℕ → ℕ → ℕ
root_from e n zero c = c
root_from e n (suc bits) c = root_from e n bits (if nat_le ((c + 2 ^ bits) ^ e) n then c + 2 ^ bits else c)

-- the first 32 bits of the fraction of the root of p (a root below 8)
abbrev pub fraction : ℕ → ℕ → ℕ
fraction e p = root_from e (p * 2 ^ (32 * e)) 35 0 % 2 ^ 32

-- the round constants, from cube roots, and the initial hash value, from square roots
unfoldable pub round_constants : List ℕ
round_constants = map (fraction 3) primes

unfoldable pub initial : List ℕ
initial = map (fraction 2) (take 8 primes)
