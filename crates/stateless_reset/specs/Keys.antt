-- The lengths of the signatures of HMAC-SHA-256 and of the bench key.
use Rattle.std.specs.Prelude.{◌≡◌, ℕ, ◌≤◌, List, length}
use Rattle.std.proofs.Common.{arith}
use Rattle.sha256.specs.declared.hmac.HmacKey.{HmacKey}
use Rattle.sha256.specs.Hmac.{signed}
use Rattle.sha256.proofs.Absorbing.{length-digest}

pub length_signed : (k : HmacKey) (m : List ℕ) → length (signed k m) ≡ 32
unfolding signed
length_signed k m = length-digest _ _ _

pub hmac_within : (16 ≤ 32) × (32 ≤ 64)
hmac_within = (omega arith, omega arith)

pub bench_within : (16 ≤ 16) × (16 ≤ 64)
bench_within = (omega arith, omega arith)
