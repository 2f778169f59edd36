use Rattle.std.proofs.Common.{[], ◌++◌, refl, sym, subst}
use Rattle.record_pool.specs.Pools.{places}
use Rattle.record_pool.specs.declared.chain.Chain.{Chain}
use Rattle.record_pool.proofs.Steps.{leading, Outcome, released, becomes}
use Rattle.record_pool.proofs.pool.Pool.release.Goals as goal

pub returns-clause-chains : goal.returns-clause-chains
returns-clause-chains g c others d = becomes c.args.self.now _ _ others _ _ _ refl
    (subst (λ (e : Chain). Outcome c.args.self.now.blank c.args.self.now.records.now c.join-self.new.records c.args.self.now.free c.join-self.result e others [] []
    (places c.args.self.now c.args.chain.now ++ places c.args.self.now c.args.self.now.free)) (sym c.new.ensures.empty)
    (released c.args.self.now.records.now c.put_along.new.records c.join-self.new.records c.join-self.result c.args.self.now.free c.args.chain.now others c.args.self.now.blank
    d.size (leading c.args.self.now c.args.chain.now others d) c.put_along.ensures.links c.put_along.ensures.slots
    c.join-self.ensures.slots (c.join-self.ensures.chains others)))
