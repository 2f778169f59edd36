use Rattle.std.proofs.Common.{◌≡◌, ℕ, ◌+◌, length, ap, ◌∙◌, arith}
use Rattle.sha256.specs.Constants.{initial, primes}
use Rattle.sha256.specs.Digest.{digest_from}
use Rattle.sha256.proofs.message.digest.Goals as goal

pub returns : goal.returns
unfolding initial primes
returns c =
    let m = c.args.message.now in
    let n : 0 + length m ≡ length m = omega arith in
    c.digest_after.ensures ∙ ap (λ (k : ℕ). digest_from initial k m) n
