use Rattle.gate.specs.Successions.{terms}
use Rattle.gate.proofs.Onceness.{not_both}
use Rattle.gate.proofs.laws.no_two_arrivals_with_one_token_are_honoured.Goals as goal

pub returns : goal.returns
returns g c start newer between older x y r q w e =
    not_both (terms g.S.SealingScheme.image g.S.SealingScheme.opened c.args.gate.now) newer between older x y r q (c.no_token_is_honoured_twice.ensures start _ w) e
