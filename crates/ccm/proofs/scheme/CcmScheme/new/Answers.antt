use Rattle.std.proofs.Common.{ℕ, List, [], ◌∷◌, ◌++◌, ap}
use Rattle.sha256.specs.declared.hmac.HmacKey.{HmacKey}
use Rattle.ccm.specs.Mode.{sealed}
use Rattle.ccm.specs.Scheme.{aes256, cipher_for}
use Rattle.ccm.proofs.scheme.CcmScheme.new.Goals as goal

pub returns : goal.returns
unfolding cipher_for
returns c = record {
  kept = ap (λ (k : HmacKey). record { secret = k }) c.new.ensures.kept;
  images = λ n m. ap (λ (key : List ℕ). sealed (aes256 key) m) (c.new.ensures.signs (n ++ (1 ∷ [])));
}
