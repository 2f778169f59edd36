use Rattle.gate.specs.Successions.{Leads}
use Rattle.own_parts.proofs.Serving.{Served}
use Rattle.own_parts.proofs.clients.serve_all.Given as goal

abbrev pub invariant-loop-i : goal.invariant-loop-i
invariant-loop-i g l =
    Served (λ xs. Leads g.S.SealingScheme.image g.S.SealingScheme.opened g.L.TokenLog.logs l.initial.gate xs l.gate) l.guests l.honoured l.i
