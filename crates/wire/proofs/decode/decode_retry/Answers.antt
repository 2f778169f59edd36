use Rattle.std.proofs.Common.{◌+◌, ◌-◌, length, take, drop, sym, ◌∙◌}
use Rattle.wire.specs.Fields.{both}
use Rattle.wire.specs.Content.{decode_retry, decode_addr, decode_id, decode_time}
use Rattle.wire.specs.declared.types.TokenPayload.TheVariants.{Retry}
use Rattle.wire.proofs.Reading.{exits, first_stops, second_stops, both_read, ended_ok, ended_stops, ended-past}
use Rattle.wire.proofs.decode.decode_retry.Goals as goal

pub returns-in_err-address : goal.returns-in_err-address
unfolding decode_retry
returns-in_err-address c =
    let h = first_stops decode_addr (both decode_id decode_time) c.args.bytes.now _ c.in_err-address.ensures.value in
    exits c.from_residual.result _ c.from_residual.ensures.1 ∙ rw h

pub returns-in_err-orig_dst_cid : goal.returns-in_err-orig_dst_cid
unfolding decode_retry
returns-in_err-orig_dst_cid c =
    let bs = c.args.bytes.now in
    let n = c.in_ok-address.address_len in
    let inner = first_stops decode_id decode_time (take (length bs - n) (drop n bs)) _ c.in_err-orig_dst_cid.ensures.value in
    let h = second_stops decode_addr (both decode_id decode_time) bs _ n c.in_ok-address.ensures.value _ (sym inner) in
    exits c.from_residual-in_err-orig_dst_cid.result _ c.from_residual-in_err-orig_dst_cid.ensures.1 ∙ rw h

pub returns-in_err-issued : goal.returns-in_err-issued
unfolding decode_retry
returns-in_err-issued c =
    let bs = c.args.bytes.now in
    let n = c.in_ok-address.address_len in
    let inner = second_stops decode_id decode_time (take (length bs - n) (drop n bs)) _ _ c.in_ok-orig_dst_cid.ensures.value _ c.in_err-issued.ensures.value in
    let h = second_stops decode_addr (both decode_id decode_time) bs _ n c.in_ok-address.ensures.value _ (sym inner) in
    exits c.from_residual-in_err-issued.result _ c.from_residual-in_err-issued.ensures.1 ∙ rw h

pub returns-in_err-ended : goal.returns-in_err-ended
unfolding decode_retry
returns-in_err-ended c =
    let bs = c.args.bytes.now in
    let n = c.in_ok-address.address_len in
    let m = c.in_ok-orig_dst_cid.id_len in
    let k = c.in_ok-issued.time_len in
    let said = Retry c.in_ok-address.address c.in_ok-orig_dst_cid.orig_dst_cid c.in_ok-issued.issued in
    let inner = both_read decode_id decode_time (take (length bs - n) (drop n bs)) _ m c.in_ok-orig_dst_cid.ensures.value _ k c.in_ok-issued.ensures.value in
    let h = both_read decode_addr (both decode_id decode_time) bs _ n c.in_ok-address.ensures.value _ (m + k) (sym inner) in
    let e = ended_stops said bs (n + (m + k)) _ (c.in_err-ended.ensures ∙ ended-past tt bs n (m + k) c.in_ok-address.ensures.taken) in
    exits c.from_residual-in_err-ended.result _ c.from_residual-in_err-ended.ensures.1 ∙ rw (h, e)

pub returns : goal.returns
unfolding decode_retry
returns c =
    let bs = c.args.bytes.now in
    let n = c.in_ok-address.address_len in
    let m = c.in_ok-orig_dst_cid.id_len in
    let k = c.in_ok-issued.time_len in
    let said = Retry c.in_ok-address.address c.in_ok-orig_dst_cid.orig_dst_cid c.in_ok-issued.issued in
    let inner = both_read decode_id decode_time (take (length bs - n) (drop n bs)) _ m c.in_ok-orig_dst_cid.ensures.value _ k c.in_ok-issued.ensures.value in
    let h = both_read decode_addr (both decode_id decode_time) bs _ n c.in_ok-address.ensures.value _ (m + k) (sym inner) in
    let e = ended_ok said bs (n + (m + k)) (c.in_ok-ended.ensures ∙ ended-past tt bs n (m + k) c.in_ok-address.ensures.taken) in
    rw (h, e)
