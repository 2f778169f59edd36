use Rattle.std.proofs.Common.{◌≡◌, ℕ, List, map, ap, ◌∙◌}
use lib.Bits.{bit_xor}
use Rattle.sha256.specs.Constants.{initial, primes}
use Rattle.sha256.specs.Block.{compressed}
use Rattle.sha256.specs.Hmac.{key_pad}
use Rattle.sha256.proofs.Keys.{keyed}
use Rattle.sha256.proofs.hmac.HmacKey.new.Goals as goal

pub returns : goal.returns
unfolding initial primes key_pad
returns c =
    let pad : ℕ → List ℕ → List ℕ = λ p b. map (λ x. bit_xor x p) b in
    let key = c.args.key.now in
    let i : c.compress.result ≡ compressed initial (key_pad 0x36 key) = c.compress.ensures ∙ ap (compressed initial) (c.mask.ensures ∙ ap (pad 0x36) c.key_block-block.ensures) in
    let o : c.compress-2.result ≡ compressed initial (key_pad 0x5c key) = c.compress-2.ensures ∙ ap (compressed initial) (c.mask-2.ensures ∙ ap (pad 0x5c) c.key_block-block.ensures) in
    record { kept = rw (i, o); signs = λ m. keyed key c.compress.result c.compress-2.result m i o }
