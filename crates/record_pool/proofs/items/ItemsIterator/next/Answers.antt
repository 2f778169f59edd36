use Rattle.std.proofs.Common.{length, ap, arith}
use Rattle.record_pool.proofs.Giving.{gives}
use Rattle.record_pool.proofs.items.ItemsIterator.next.Goals as goal

pub returns-clause-steps : goal.returns-clause-steps
returns-clause-steps g c = gives c.args.self.now.records.now c.args.self.now.left.count c.args.self.now.left.first c.in_ok-i.i c.index-self-i.result (omega arith) (omega arith) (omega arith)

pub returns-clause-goes : goal.returns-clause-goes
returns-clause-goes g c =
    let s = c.args.self.now in
    let e = ap length (gives s.records.now s.left.count s.left.first c.in_ok-i.i c.index-self-i.result (omega arith) (omega arith) (omega arith)) in
    record { on = λ f. (tt, tt, omega arith); keeps = tt; rests = λ f. tt }
