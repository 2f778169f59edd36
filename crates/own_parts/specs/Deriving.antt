-- A signature under a key that is derived of a secret and the message.
use Rattle.std.specs.Prelude.{◌≡◌, ℕ, ◌≤◌, List, [], ◌∷◌, ◌++◌, length}
use Rattle.std.proofs.Common.{arith}
use Rattle.sha256.specs.declared.hmac.HmacKey.{HmacKey}
use Rattle.sha256.specs.Hmac.{hmac, signed}
use Rattle.sha256.proofs.Absorbing.{length-digest}

abbrev pub derived_signature : HmacKey → List ℕ → List ℕ
derived_signature secret m = hmac (signed secret (m ++ 1 ∷ [])) m

pub length_derived : (secret : HmacKey) (m : List ℕ) → length (derived_signature secret m) ≡ 32
unfolding hmac
length_derived secret m = length-digest _ _ _

pub derived_within : (16 ≤ 32) × (32 ≤ 64)
derived_within = (omega arith, omega arith)
