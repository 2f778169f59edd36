use Rattle.record_pool.proofs.Divisions.{all_counted}
use Rattle.record_pool.proofs.laws.no_record_is_lost.Goals as goal

pub returns : goal.returns
returns g c = all_counted c.args.pool.now
