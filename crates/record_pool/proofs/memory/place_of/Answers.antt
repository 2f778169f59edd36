use Rattle.std.proofs.Common.{slice_index, refl, ◌∙◌, rules, tests, arith}
use Rattle.std.proofs.lemmas.Iterator.{YieldsList-from_range}
use Rattle.std.proofs.lemmas.Iterator.Consumers.{fold_from_yields_List}
use Rattle.record_pool.specs.Pools.{links}
use Rattle.record_pool.proofs.Runs.{follow_fold}
use Rattle.record_pool.proofs.memory.place_of.Goals as goal

pub returns : goal.returns
returns g c =
    let n = c.args.count in
    let nx = links c.args.records.now in
    fold_from_yields_List _ (λ p i. slice_index nx p) _ c.fold.result c.fold.ensures.ran (YieldsList-from_range 0 n n refl (omega arith)) (λ a x b q k. search (rules, tests))
    ∙ follow_fold nx n 0 c.args.chain.first
