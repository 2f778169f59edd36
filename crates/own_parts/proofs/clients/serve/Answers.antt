use Rattle.std.proofs.Common.{◌∷◌, sym, ap, ◌∙◌}
use Rattle.gate.specs.Calls.{told as told_by, arrival_of}
use Rattle.gate.specs.Successions.{terms}
use Rattle.gate.specs.Successions.Call.{arriving}
use Rattle.gate.specs.Laws.{honours}
use Rattle.own_parts.proofs.Serving.{told, told_as}
use Rattle.own_parts.proofs.clients.serve.Goals as goal

pub returns-after-slip : goal.returns-after-slip
returns-after-slip g c s xs before =
    let x = arrival_of c.deref.result.now c.deref-2.result.now c.args.guest.now.address c.args.guest.now.clock c.args.working.now in
    let r = told_by c.arrive-answer.result in
    let leads = c.arrive-answer.ensures.adds s xs before in
    let once = c.no_token_is_honoured_twice.ensures s (arriving x r ∷ xs) leads in
    let honoured = ap (λ z. honours (told_by z)) c.in-Ok.is ∙ sym c.by_token.ensures in (
      arriving x r,
      leads,
      told_as c.args.guest.now.token.items x.token c.by_token.result (honours r) (arriving x r) xs c.deref.ensures.value honoured
          (told (terms g.S.SealingScheme.image g.S.SealingScheme.opened c.arrive-answer.new.self) x r xs once),
    )
