use Rattle.gate.specs.Successions.{terms}
use Rattle.gate.proofs.Stepping.{moves}
use Rattle.gate.proofs.Machine.{by_machine}
use Rattle.gate.proofs.laws.a_gate_answers_as_its_log.Goals as goal

pub returns : goal.returns
returns g c says start law xs w =
    let gate = c.args.gate.now in
    let image = g.S.SealingScheme.image in
    let opened = g.S.SealingScheme.opened in
    let R = g.L.TokenLog.logs in
    by_machine R (terms image opened gate) says start.log law xs gate.log (moves image opened R start gate xs w)
