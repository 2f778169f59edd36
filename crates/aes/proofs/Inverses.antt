-- Each byte's inverse: its product with the byte, computed at each one.
use Rattle.std.proofs.Common.{◌≡◌, ℕ, zero, suc, ◌<◌, refl, ap, ◌∙◌, arith}
use Rattle.aes.specs.Field.{gmul, inverse, sub}
use Rattle.aes.specs.Laws.{TheSubstitutionInverts}
use Rattle.aes.proofs.Bounds.{gmul_lt, sub_lt}
use Rattle.aes.proofs.Entries.{agree}

product_one : (x : ℕ) → x < 256 → (x ≡ 0 → ⊥) → gmul x (inverse x) ≡ 1
unfolding gmul inverse
product_one zero h n = absurd (n refl)
product_one (suc k) h n = agree (λ k. gmul (suc k) (inverse (suc k))) (λ k. 1) 255 refl k (omega arith)

inverse_lt : (x : ℕ) → x < 256 → inverse x < 256
unfolding inverse
inverse_lt x h = gmul_lt (gmul x x) _ (gmul_lt x x h)

inverse_none : inverse 0 ≡ 0
unfolding gmul inverse
inverse_none = refl

pub inverts : TheSubstitutionInverts
unfolding sub
inverts x h = record {
  byte = inverse_lt x h;
  product = product_one x h;
  none = λ e. ap inverse e ∙ inverse_none;
  image = refl;
  small = sub_lt x;
}
