use Rattle.std.proofs.Common.{◌≡◌, ◌+◌, ◌-◌, ◌≤◌, length, arith}
use Rattle.wire.specs.Content.{encode_content}
use Rattle.sealing.specs.Tokens.{sealed_with}
use Rattle.sealing.proofs.Tokening.{token_written}
use Rattle.sealing.proofs.tokens.write_token.Goals as goal

pub returns : goal.returns
unfolding sealed_with
returns g c =
    let scheme = c.args.scheme.now in
    let nonce = c.args.nonce.now in
    let bs = encode_content c.args.payload.now in
    let len = c.encode_into-len.result in
    let l : len ≡ length bs = c.encode_into-len.ensures.len in
    let small : len ≤ 49 = c.encode_into-len.ensures.bound in
    let longer = g.met.S.SealingScheme.longer scheme nonce bs (c.slices_are_bytes.ensures, omega arith) (c.encode_into-len.ensures.bytes, omega arith) in
    let end = c.seal_into-end.result in
    let e : end ≡ len + 16 = c.seal_into-end.ensures.len in
    let w = token_written (g.S.SealingScheme.image scheme) nonce bs c.args.working.now c.encode_into-len.new.working c.args.out.now c.seal_into-end.new.out c.copy_from_slice.new.self
    len end (end + 16 - end) longer (omega arith) c.encode_into-len.ensures.after l c.seal_into-end.ensures.after e c.copy_from_slice.ensures.after (omega arith) (omega arith) in
    record { len = w.0; bound = omega arith; after = w.1 }
