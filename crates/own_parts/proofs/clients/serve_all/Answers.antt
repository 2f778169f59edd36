use Rattle.std.proofs.Common.{◌<◌, [], length, arith}
use Rattle.std.proofs.lemmas.List.{get_or_read}
use Rattle.gate.specs.Successions.{Leads}
use Rattle.answers.specs.Successions.Succession.{new}
use Rattle.own_parts.proofs.Serving.{one_more}
use Rattle.own_parts.proofs.clients.serve_all.Goals as goal

pub loop-i-init : goal.loop-i-init
loop-i-init g c = record { calls = []; leads = new; noted = λ d k h. absurd (omega arith); apart = λ d j h. absurd (omega arith) }

pub loop-i-preserved : goal.loop-i-preserved
loop-i-preserved g c =
    let l = c.loop-i in
    let m = c.min-i-end.ensures in
    let t = c.loop-i-test.true in
    let served : l.i < length l.honoured = omega (arith, l.auto.honoured) in
    let listed : l.i < length c.args.guests.now = omega arith in
    one_more (λ xs. Leads g.S.SealingScheme.image g.S.SealingScheme.opened g.L.TokenLog.logs c.args.gate.now xs l.gate)
    (λ xs. Leads g.S.SealingScheme.image g.S.SealingScheme.opened g.L.TokenLog.logs c.args.gate.now xs c.serve.new.gate)
    c.args.guests.now l.honoured l.i c.serve.result c.index-guests-i.result served (get_or_read c.args.guests.now l.i c.index-guests-i.result listed c.index-guests-i.is) l.invariant
    (c.serve.ensures c.args.gate.now l.invariant.calls l.invariant.leads)
