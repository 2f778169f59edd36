use Rattle.std.proofs.Common.{◌∷◌}
use Rattle.record_pool.proofs.Steps.{outcome, pushed_back, becomes}
use Rattle.record_pool.proofs.pool.Pool.push_back.Goals as goal

pub returns-clause-chains : goal.returns-clause-chains
returns-clause-chains g c others pos d = becomes c.args.self.now _ _ others _ _ _ c.take.ensures.leaves.blank
    (pushed_back c.args.self.now.records.now c.take.new.self.records.now c.join.new.records c.args.self.now.free c.take.new.self.free c.args.chain.now c.in_ok-one.one c.join.result others _ _ _ c.args.self.now.blank
    (outcome _ _ _ _ _ _ _ (c.in_ok-one.ensures.chains (c.args.chain.now ∷ others) d))
    c.join.ensures.slots (c.join.ensures.chains (c.take.new.self.free ∷ others)))
