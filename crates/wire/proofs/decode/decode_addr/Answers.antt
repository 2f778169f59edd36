use Rattle.std.proofs.Common.{length, rules}
use Rattle.wire.specs.Content.{decode_addr, decode_ip, decode_port}
use Rattle.wire.proofs.Reading.{stops, second_stops, both_read}
use Rattle.wire.proofs.decode.decode_addr.Goals as goal

pub returns-in_err-ip : goal.returns-in_err-ip
unfolding decode_addr
returns-in_err-ip c = search rules

pub returns-in_err-port : goal.returns-in_err-port
unfolding decode_addr
returns-in_err-port c =
    let bs = c.args.bytes.now in
    let h = second_stops decode_ip decode_port bs _ _ c.in_ok-ip.ensures.value _ c.in_err-port.ensures.value in
    let s = stops c.from_residual-in_err-port.result (decode_addr bs) _ (length bs) c.from_residual-in_err-port.ensures.1 (rw h) in
    record { value = s.0; taken = s.1 }

pub returns : goal.returns
unfolding decode_addr
returns c =
    let bs = c.args.bytes.now in
    let h = both_read decode_ip decode_port bs _ _ c.in_ok-ip.ensures.value _ _ c.in_ok-port.ensures.value in
    record { value = rw h; taken = search rules }
