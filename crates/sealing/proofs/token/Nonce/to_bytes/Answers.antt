use Rattle.std.proofs.Common.{◌≡◌, ◌∙◌}
use Rattle.wire.specs.Numbers.{little_endian}
use Rattle.wire.proofs.Numbers.{write_8}
use Rattle.sealing.specs.Tokens.{nonce_bytes}
use Rattle.sealing.proofs.token.Nonce.to_bytes.Goals as goal

pub returns : goal.returns
unfolding nonce_bytes
returns c =
    let n = c.args.self.now in
    let e : c.copy_from_slice.new.self ≡ little_endian 8 n.low = c.copy_from_slice.ensures.after ∙ c.to_le_bytes.ensures ∙ write_8 n.low in
    let f : c.copy_from_slice-2.new.self ≡ little_endian 8 n.high = c.copy_from_slice-2.ensures.after ∙ c.to_le_bytes-2.ensures ∙ write_8 n.high in
    rw (e, f)
