-- The positions of a fingerprint: the ones that are still to come, and all of them as a list.
use Rattle.std.proofs.Common.{Bool, true, [], ◌∷◌, ◌-◌, mod-eq_of_lt, mod-lt, ◌≡◌, ℕ, zero, suc, ◌+◌, ◌%◌, ◌<◌, ◌≤◌, nat_eq, List, sym, refl, ap, ◌∙◌, ⊎_elim, add-one, arith}
use Rattle.std.proofs.lemmas.Bool.{false≢true, eqb-true, or_cases}
use Rattle.filter.specs.Lists.{member}
use native.Mathlib.Nat.{mod-eq-sub-mod}
use Rattle.bloom.specs.Bits.{ahead}

pub ahead_none : (m s p n : ℕ) → n ≡ 0 → ahead m s p n ≡ []
unfolding ahead
ahead_none m s p n e = rw e refl

pub ahead_more : (m s p n j q : ℕ) → n ≡ j + 1 → q ≡ (p + s) % m → ahead m s p n ≡ p ∷ ahead m s q j
unfolding ahead
ahead_more m s p n j q e d = rw (e, d, add-one) refl

pub past_end : (m p s q : ℕ) → p < m → s < m → m ≤ p + s → q ≡ p + s - m → q ≡ (p + s) % m
past_end m p s q h k l e = let r : p + s - m < m = omega arith in e ∙ sym (mod-eq-sub-mod l ∙ mod-eq_of_lt r)

-- every position is below the number of bits
pub position_lt : (m s n q p : ℕ) → q < m → member p (ahead m s q n) ≡ true → p < m
unfolding ahead
position_lt m s zero q p l h = absurd (false≢true h)
position_lt m s (suc n) q p l h =
    ⊎_elim (λ (e : nat_eq q p ≡ true). omega (arith, eqb-true q p e)) (λ t. position_lt m s n ((q + s) % m) p (mod-lt (q + s) (omega arith)) t) (or_cases (nat_eq q p) (member p (ahead m s ((q + s) % m) n)) h)
