use Rattle.std.proofs.Common.{◌∷◌, ◌++◌, refl, arith, length-append}
use Rattle.answers.proofs.Buffers.{then_put}
use Rattle.wire.specs.Content.{encode_ip, encode_port, encode_addr, encode_id, encode_content}
use Rattle.wire.specs.declared.types.TokenPayload.TheVariants.{Retry}
use Rattle.wire.proofs.Writing.{retry_fields, retry_length}
use Rattle.wire.proofs.encode.encode_retry.Goals as goal

pub put-fields-requires : goal.put-fields-requires
put-fields-requires c = omega (arith, retry_length c.args.address c.args.orig_dst_cid c.args.issued)

pub encode_addr-id-requires : goal.encode_addr-id-requires
encode_addr-id-requires c =
    omega (
      arith,
      retry_length c.args.address c.args.orig_dst_cid c.args.issued,
      length-append (encode_ip c.args.address.ip) (encode_port c.args.address.port),
    )

pub encode_long-time-requires : goal.encode_long-time-requires
encode_long-time-requires c =
    omega (
      arith,
      retry_length c.args.address c.args.orig_dst_cid c.args.issued,
      length-append (encode_ip c.args.address.ip) (encode_port c.args.address.port),
    )

pub encode_unix_secs-requires : goal.encode_unix_secs-requires
encode_unix_secs-requires c =
    omega (
      arith,
      retry_length c.args.address c.args.orig_dst_cid c.args.issued,
      length-append (encode_ip c.args.address.ip) (encode_port c.args.address.port),
    )

pub returns : goal.returns
returns c =
    let address = c.args.address in
    let id = c.args.orig_dst_cid in
    let l = retry_length address id c.args.issued in
    let e = length-append (encode_ip address.ip) (encode_port address.port) in
    let f = length-append (0 ∷ encode_addr address) (encode_id id) in
    let one = then_put (0 ∷ encode_addr address) refl (omega arith) c.put-fields.ensures c.encode_addr-id.ensures in
    let two = then_put ((0 ∷ encode_addr address) ++ encode_id id) refl (omega arith) one c.encode_long-time.ensures in
    then_put (encode_content (Retry address id c.args.issued)) (retry_fields address id c.args.issued) (omega arith) two c.encode_unix_secs.ensures
