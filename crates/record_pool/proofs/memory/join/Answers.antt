use Rattle.std.proofs.Common.{◌≡◌, ◌+◌, ◌≤◌, length, arith}
use Rattle.record_pool.specs.Pools.{links}
use Rattle.record_pool.proofs.Cells.{length-links}
use Rattle.record_pool.proofs.Sharing.{joined_some, two_counts}
use Rattle.record_pool.proofs.memory.join.Goals as goal

pub returns-clause-chains : goal.returns-clause-chains
returns-clause-chains g c others small sh =
    let t : c.args.front.count + c.args.back.count ≤ length c.args.records.now
    = two_counts (length c.args.records.now) (links c.args.records.now) c.args.front c.args.back others sh in
    let e : c.saturating_add.result ≡ c.args.front.count + c.args.back.count = omega (arith, c.saturating_add.ensures, small) in
    joined_some (length c.args.records.now) (links c.args.records.now) (links c.link.new.records) c.args.front c.args.back c.place_of-last.result c.saturating_add.result others
    (length-links c.args.records.now) (omega arith) sh c.place_of-last.ensures c.link.ensures.links e
