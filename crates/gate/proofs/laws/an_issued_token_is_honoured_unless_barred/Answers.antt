use Rattle.gate.proofs.Welcoming.{unless_barred}
use Rattle.gate.proofs.laws.an_issued_token_is_honoured_unless_barred.Goals as goal

pub returns : goal.returns
returns g c start xs w =
    unless_barred g.S.SealingScheme.image g.S.SealingScheme.opened g.L.TokenLog.logs g.L.TokenLog.bars g.met.L.TokenLog.tied start c.args.gate.now xs w
    c.a_written_token_says_its_content.ensures
