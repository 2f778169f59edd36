use Rattle.std.proofs.Common.{refl}
use Rattle.record_pool.proofs.Steps.{written, becomes}
use Rattle.record_pool.proofs.pool.Pool.set_item.Goals as goal

pub returns-clause-chains : goal.returns-clause-chains
returns-clause-chains g c chain others k d e = becomes c.args.self.now _ chain others _ _ _ refl
    (written c.args.self.now.records.now c.put.new.records c.args.self.now.free chain others k c.args.place c.args.self.now.blank c.args.item
    d.size d.shared e c.put.ensures.links c.put.ensures.slots)
