use Rattle.std.proofs.Common.{◌+◌, ◌<◌, length, refl, arith}
use Rattle.record_pool.specs.Pools.{links}
use Rattle.record_pool.proofs.Cells.{length-links, links-set}
use Rattle.record_pool.proofs.Writes.{filled, filled_more}
use Rattle.record_pool.proofs.Sharing.{down_more, shared_down, along_down}
use Rattle.record_pool.proofs.memory.chain_all.Goals as goal

pub loop-i-preserved : goal.loop-i-preserved
loop-i-preserved g c =
    let rs = c.loop-i.records in
    let i = c.loop-i.i in
    let long : i + 1 < length (links rs) = omega (arith, length-links rs) in (
      down_more (links rs) _ i long (links-set rs i (i + 1) _ refl) c.loop-i.invariant.0,
      filled_more rs i (record { next = i; item = c.args.item }) (omega arith) c.loop-i.invariant.1,
    )

pub returns-clause-chains : goal.returns-clause-chains
returns-clause-chains g c = shared_down (length c.args.records.now) (links c.loop-i.records) (λ k h. c.loop-i.invariant.0 k (omega arith))

pub returns-clause-order : goal.returns-clause-order
returns-clause-order g c = along_down (length c.args.records.now) (links c.loop-i.records) (λ k h. c.loop-i.invariant.0 k (omega arith))

pub returns-clause-slots : goal.returns-clause-slots
returns-clause-slots g c = filled c.loop-i.records c.loop-i.i (length c.args.records.now) c.args.item (omega arith) (omega arith) c.loop-i.invariant.1
