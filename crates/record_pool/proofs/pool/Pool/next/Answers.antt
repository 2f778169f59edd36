use Rattle.std.proofs.Common.{◌≡◌, ◌∷◌, length, ◌∙◌, rules}
use Rattle.record_pool.specs.Pools.{some_place, links}
use Rattle.record_pool.proofs.Steps.{leading, next_place}
use Rattle.record_pool.proofs.pool.Pool.next.Goals as goal

pub returns-clause-chains : goal.returns-clause-chains
returns-clause-chains g c chain others k d e =
    let s : c.then_some.result ≡ some_place c.next_of-next.result = search rules in
    s ∙ next_place (length c.args.self.now.records.now) (links c.args.self.now.records.now) chain (c.args.self.now.free ∷ others) k c.args.place c.next_of-next.result
    (leading c.args.self.now chain others d) e c.next_of-next.ensures
