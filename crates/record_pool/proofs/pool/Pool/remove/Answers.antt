use Rattle.std.proofs.Common.{◌∷◌, refl, sym, ◌∙◌}
use Rattle.record_pool.specs.Pools.{places}
use Rattle.record_pool.proofs.Steps.{leading, held-within, nothing_freed, one_freed, removed, becomes}
use Rattle.record_pool.proofs.pool.Pool.remove.Goals as goal

pub detach-requires : goal.detach-requires
detach-requires g c =
    held-within c.args.self.now.records.now c.args.chain.now c.args.k c.in_ok-item.item (sym c.in_ok-item.was ∙ c.get.ensures.answer)

pub returns-in_err-item-clause-leaves : goal.returns-in_err-item-clause-leaves
returns-in_err-item-clause-leaves g c = record {
  slots = nothing_freed c.args.self.now.records.now (places c.args.self.now c.args.chain.now) c.args.k c.args.self.now.blank (sym c.in_err-item.was ∙ c.get.ensures.answer);
  blank = refl;
}

pub returns-clause-leaves : goal.returns-clause-leaves
returns-clause-leaves g c = record {
  slots = one_freed c.args.self.now.records.now c.detach.new.records c.put.new.records c.join-self.new.records c.args.chain.now c.args.k c.detach.result.one.first c.args.self.now.blank
      (held-within c.args.self.now.records.now c.args.chain.now c.args.k c.in_ok-item.item (sym c.in_ok-item.was ∙ c.get.ensures.answer)) c.detach.ensures.slots c.detach.ensures.first c.put.ensures.slots c.join-self.ensures.slots;
  blank = refl;
}

pub returns-clause-chains : goal.returns-clause-chains
returns-clause-chains g c others within d = becomes c.args.self.now _ _ others _ _ _ refl
    (removed c.args.self.now.records.now c.detach.new.records c.put.new.records c.join-self.new.records
    c.args.self.now.free c.args.chain.now c.detach.result.rest c.detach.result.one c.join-self.result others c.args.k c.args.self.now.blank
    d.size within (leading c.args.self.now c.args.chain.now others d) c.detach.ensures.slots
    (c.detach.ensures.chains (c.args.self.now.free ∷ others)
    (leading c.args.self.now c.args.chain.now others d)) c.detach.ensures.first c.put.ensures.links c.put.ensures.slots
    c.join-self.ensures.slots (c.join-self.ensures.chains (c.detach.result.rest ∷ others)))
