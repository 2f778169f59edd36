use Rattle.std.proofs.Common.{◌∷◌, arith}
use Rattle.record_pool.proofs.Giving.{gives_all, length-items}
use Rattle.record_pool.proofs.Steps.{leading}
use Rattle.record_pool.proofs.pool.Pool.items.Goals as goal

pub returns-clause-chains : goal.returns-clause-chains
returns-clause-chains g c others d = gives_all c.args.self.now.records.now c.args.chain (c.args.self.now.free ∷ others) (leading c.args.self.now c.args.chain others d)

pub returns-clause-few : goal.returns-clause-few
returns-clause-few g c =
    let l = length-items c.args.chain.count c.args.self.now.records.now c.args.chain.first in
    omega arith
