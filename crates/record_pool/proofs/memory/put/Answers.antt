use Rattle.std.proofs.Common.{is_some, ap}
use Rattle.record_pool.proofs.Cells.{links_same, slots_at, slots_put}
use Rattle.record_pool.proofs.memory.put.Goals as goal

pub returns-clause-answer : goal.returns-clause-answer
returns-clause-answer g c = ap is_some (slots_at c.args.records.now c.in-Some.i c.args.place c.index-records-i.result c.in-Some.ensures.0 c.in-Some.ensures.1)

pub returns-clause-links : goal.returns-clause-links
returns-clause-links g c = links_same c.args.records.now c.in-Some.i c.args.place c.index-records-i.result c.args.item c.in-Some.ensures.0 c.in-Some.ensures.1

pub returns-clause-slots : goal.returns-clause-slots
returns-clause-slots g c = slots_put c.args.records.now c.in-Some.i c.args.place _ c.in-Some.ensures.0
