use Rattle.record_pool.proofs.Cells.{links-set, slots_same}
use Rattle.record_pool.proofs.memory.link.Goals as goal

pub returns-clause-links : goal.returns-clause-links
returns-clause-links g c = λ _. links-set c.args.records.now c.in-Some.i c.args.place _ c.in-Some.ensures.0

pub returns-clause-slots : goal.returns-clause-slots
returns-clause-slots g c = slots_same c.args.records.now c.in-Some.i c.args.place c.index-records-i.result c.args.to c.in-Some.ensures.0 c.in-Some.ensures.1
