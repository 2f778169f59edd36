use Rattle.std.proofs.Common.{◌∙◌}
use Rattle.wire.specs.Content.{decode_validation, decode_ip, decode_time}
use Rattle.wire.specs.declared.types.TokenPayload.TheVariants.{Validation}
use Rattle.wire.proofs.Reading.{exits, first_stops, second_stops, both_read, ended_ok, ended_stops}
use Rattle.wire.proofs.decode.decode_validation.Goals as goal

pub returns-in_err-ip : goal.returns-in_err-ip
unfolding decode_validation
returns-in_err-ip c =
    let h = first_stops decode_ip decode_time c.args.bytes.now _ c.in_err-ip.ensures.value in
    exits c.from_residual.result _ c.from_residual.ensures.1 ∙ rw h

pub returns-in_err-issued : goal.returns-in_err-issued
unfolding decode_validation
returns-in_err-issued c =
    let h = second_stops decode_ip decode_time c.args.bytes.now _ _ c.in_ok-ip.ensures.value _ c.in_err-issued.ensures.value in
    exits c.from_residual-in_err-issued.result _ c.from_residual-in_err-issued.ensures.1 ∙ rw h

pub returns-in_err-ended : goal.returns-in_err-ended
unfolding decode_validation
returns-in_err-ended c =
    let h = both_read decode_ip decode_time c.args.bytes.now _ _ c.in_ok-ip.ensures.value _ _ c.in_ok-issued.ensures.value in
    let e = ended_stops (Validation c.in_ok-ip.ip c.in_ok-issued.issued) c.args.bytes.now _ _ c.in_err-ended.ensures in
    exits c.from_residual-in_err-ended.result _ c.from_residual-in_err-ended.ensures.1 ∙ rw (h, e)

pub returns : goal.returns
unfolding decode_validation
returns c =
    let h = both_read decode_ip decode_time c.args.bytes.now _ _ c.in_ok-ip.ensures.value _ _ c.in_ok-issued.ensures.value in
    let e = ended_ok (Validation c.in_ok-ip.ip c.in_ok-issued.issued) c.args.bytes.now _ c.in_ok-ended.ensures in
    rw (h, e)
