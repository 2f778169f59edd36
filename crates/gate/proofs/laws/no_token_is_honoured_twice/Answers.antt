use Rattle.gate.specs.Successions.{terms}
use Rattle.gate.proofs.Stepping.{moves}
use Rattle.gate.proofs.Onceness.{once}
use Rattle.gate.proofs.laws.no_token_is_honoured_twice.Goals as goal

pub returns : goal.returns
returns g c start xs w =
    let gate = c.args.gate.now in
    let image = g.S.SealingScheme.image in
    let opened = g.S.SealingScheme.opened in
    let R = g.L.TokenLog.logs in
    once (terms image opened gate) R c.no_pair_is_accepted_twice.ensures start.log xs gate.log (moves image opened R start gate xs w)
