use Rattle.gate.proofs.Welcoming.{welcome}
use Rattle.gate.proofs.laws.every_issued_token_in_date_is_honoured.Goals as goal

pub returns : goal.returns
returns g c n start xs unused positive w =
    welcome g.S.SealingScheme.image g.S.SealingScheme.opened g.F.Filter.meaning g.F.Filter.records g.F.Filter.empties c.every_fresh_pair_is_accepted.ensures.unbarred n
    start c.args.gate.now xs w unused positive (c.an_issued_token_is_honoured_unless_barred.ensures start xs w)
