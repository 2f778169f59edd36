use Rattle.std.proofs.Common.{ℕ, refl, ap, ◌∙◌, arith}
use Rattle.record_pool.specs.Pools.{slots, some_at}
use Rattle.record_pool.proofs.Steps.{taken, becomes}
use Rattle.record_pool.proofs.pool.Pool.take.Goals as goal

pub returns-clause-chains : goal.returns-clause-chains
returns-clause-chains g c others d = becomes c.args.self.now _ _ others _ _ _ refl
    (taken c.args.self.now.records.now c.detach.new.records c.put.new.records c.args.self.now.free c.detach.result.rest c.detach.result.one others c.args.self.now.blank c.args.item
    d.size (omega arith) d.shared c.detach.ensures.slots (c.detach.ensures.chains others d.shared) c.put.ensures.links
    (c.put.ensures.slots ∙ ap (λ (p : ℕ). some_at (slots c.detach.new.records) p c.args.item) c.detach.ensures.first))
