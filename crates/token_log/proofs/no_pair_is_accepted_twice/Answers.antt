use Rattle.token_log.proofs.Twice.{once}
use Rattle.token_log.proofs.no_pair_is_accepted_twice.Goals as goal

pub returns : goal.returns
returns g c t s s' ks = once g.L.TokenLog.logs g.L.TokenLog.bars g.met.L.TokenLog.tied t ks s s'
