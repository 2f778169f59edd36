use Rattle.record_pool.proofs.Orders.{holds_just}
use Rattle.record_pool.proofs.laws.the_records_hold_what_the_chains_do.Goals as goal

pub returns : goal.returns
returns g c chains d bl = holds_just c.args.pool.now chains d bl
