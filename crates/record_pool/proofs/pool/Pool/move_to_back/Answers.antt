use Rattle.std.proofs.Common.{◌∷◌, refl}
use Rattle.record_pool.proofs.Steps.{leading, moved_back, becomes}
use Rattle.record_pool.proofs.pool.Pool.move_to_back.Goals as goal

pub returns-clause-chains : goal.returns-clause-chains
returns-clause-chains g c others within d = becomes c.args.self.now _ _ others _ _ _ refl
    (moved_back c.args.self.now.records.now c.detach.new.records c.join.new.records
    c.args.self.now.free c.args.chain.now c.detach.result.rest c.detach.result.one c.join.result others c.args.k c.args.self.now.blank
    d.size within c.detach.ensures.slots
    (c.detach.ensures.chains (c.args.self.now.free ∷ others)
    (leading c.args.self.now c.args.chain.now others d))
    c.join.ensures.slots (c.join.ensures.chains (c.args.self.now.free ∷ others)))
