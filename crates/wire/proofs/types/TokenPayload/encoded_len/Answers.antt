use Rattle.std.proofs.Common.{length, ap, arith}
use Rattle.wire.specs.Content.{encode_content}
use Rattle.wire.proofs.Writing.{retry_length, validation_length}
use Rattle.wire.proofs.types.TokenPayload.encoded_len.Goals as goal

pub returns-in-Retry : goal.returns-in-Retry
returns-in-Retry c =
    let l = retry_length c.in-Retry.address c.in-Retry.orig_dst_cid c.in-Retry.issued in
    let n = ap length c.as_slice.ensures.value in
    let s = ap (λ z. length (encode_content z)) c.in-Retry.is in
    omega (arith, s)

pub returns-in-Validation : goal.returns-in-Validation
returns-in-Validation c =
    let l = validation_length c.in-Validation.ip c.in-Validation.issued in
    let s = ap (λ z. length (encode_content z)) c.in-Validation.is in
    omega (arith, s)
