use Rattle.token_memory_cache.specs.Histories.{LosesOnlySo}
use Rattle.token_memory_cache.proofs.Histories.{loses_only_so, throughout}
use Rattle.token_memory_cache.proofs.laws.a_token_goes_in_three_ways.Goals as goal

pub returns : goal.returns
returns g c = throughout g.O.TakeOrder.place g.met.O.TakeOrder.within LosesOnlySo (loses_only_so g.O.TakeOrder.place g.met.O.TakeOrder.within) c.args.cache.now
