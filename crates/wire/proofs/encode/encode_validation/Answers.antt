use Rattle.std.proofs.Common.{◌∷◌, refl, arith}
use Rattle.answers.proofs.Buffers.{then_put}
use Rattle.wire.specs.Content.{encode_ip, encode_content}
use Rattle.wire.specs.declared.types.TokenPayload.TheVariants.{Validation}
use Rattle.wire.proofs.Writing.{validation_fields, validation_length}
use Rattle.wire.proofs.encode.encode_validation.Goals as goal

pub put-fields-requires : goal.put-fields-requires
put-fields-requires c = omega (arith, validation_length c.args.ip c.args.issued)

pub encode_ip-time-requires : goal.encode_ip-time-requires
encode_ip-time-requires c = omega (arith, validation_length c.args.ip c.args.issued)

pub encode_unix_secs-requires : goal.encode_unix_secs-requires
encode_unix_secs-requires c = omega (arith, validation_length c.args.ip c.args.issued)

pub returns : goal.returns
returns c =
    let ip = c.args.ip in
    let l = validation_length ip c.args.issued in
    let one = then_put (1 ∷ encode_ip ip) refl (omega arith) c.put-fields.ensures c.encode_ip-time.ensures in
    then_put (encode_content (Validation ip c.args.issued)) (validation_fields ip c.args.issued) (omega arith) one c.encode_unix_secs.ensures
