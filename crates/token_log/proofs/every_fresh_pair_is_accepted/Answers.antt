use Rattle.token_log.proofs.Freshness.{fresh, no_fresh_barred}
use Rattle.token_log.proofs.every_fresh_pair_is_accepted.Goals as goal

pub returns : goal.returns
returns g c =
    let m = g.F.Filter.meaning in
    let R = g.F.Filter.records in
    let E = g.F.Filter.empties in
    record {
      accepted = fresh m R E g.met.F.Filter.recorded g.met.F.Filter.emptied;
      unbarred = no_fresh_barred m R E g.met.F.Filter.recorded g.met.F.Filter.emptied;
    }
