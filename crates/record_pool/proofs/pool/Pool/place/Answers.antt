use Rattle.std.proofs.Common.{rules}
use Rattle.record_pool.specs.Pools.{links}
use Rattle.record_pool.proofs.Steps.{place_read}
use Rattle.record_pool.proofs.pool.Pool.place.Goals as goal

pub returns : goal.returns
returns g c = place_read c.then.result c.args.chain.count c.args.k (links c.args.self.now.records.now) c.args.chain.first c.then.ensures.variant (search rules)
