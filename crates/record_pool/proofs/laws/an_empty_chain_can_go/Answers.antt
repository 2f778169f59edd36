use Rattle.record_pool.proofs.Divisions.{without_empty}
use Rattle.record_pool.proofs.laws.an_empty_chain_can_go.Goals as goal

pub returns : goal.returns
returns g c chains chain z d = without_empty c.args.pool.now chain chains z d
