use Rattle.token_memory_cache.specs.Histories.{PushesOutTheUnused}
use Rattle.token_memory_cache.proofs.Histories.{pushes_out_the_unused, throughout}
use Rattle.token_memory_cache.proofs.laws.a_new_name_pushes_out_the_one_unused_longest.Goals as goal

pub returns : goal.returns
returns g c = throughout g.O.TakeOrder.place g.met.O.TakeOrder.within PushesOutTheUnused (pushes_out_the_unused g.O.TakeOrder.place g.met.O.TakeOrder.within) c.args.cache.now
