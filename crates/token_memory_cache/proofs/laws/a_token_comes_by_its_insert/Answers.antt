use Rattle.token_memory_cache.specs.Histories.{AddsOnlySo, HoldsWhatIsInserted}
use Rattle.token_memory_cache.proofs.Histories.{adds_only_so, holds_what_is_inserted, throughout}
use Rattle.token_memory_cache.proofs.laws.a_token_comes_by_its_insert.Goals as goal

pub returns : goal.returns
returns g c = record {
  comes = throughout g.O.TakeOrder.place g.met.O.TakeOrder.within AddsOnlySo (adds_only_so g.O.TakeOrder.place g.met.O.TakeOrder.within) c.args.cache.now;
  held = throughout g.O.TakeOrder.place g.met.O.TakeOrder.within HoldsWhatIsInserted (holds_what_is_inserted g.O.TakeOrder.place g.met.O.TakeOrder.within) c.args.cache.now;
}
