use Rattle.std.proofs.Common.{◌≡◌, ◌+◌, length, ◌∙◌, ap₂, arith}
use Rattle.sha256.specs.Digest.{digest_from}
use Rattle.sha256.specs.Hmac.{signed}
use Rattle.sha256.proofs.hmac.HmacKey.sign.Goals as goal

pub returns : goal.returns
unfolding signed
returns c =
    let n : 64 + length c.digest_after-inner.result ≡ 96 = omega arith in
    c.digest_after.ensures ∙ ap₂ (digest_from c.args.self.now.outer) n c.digest_after-inner.ensures
