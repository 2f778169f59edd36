use Rattle.token_memory_cache.specs.Orders.{first}
use Rattle.token_memory_cache.specs.Histories.{HandsOutTheOldest}
use Rattle.token_memory_cache.proofs.Histories.{hands_out_the_oldest, throughout}
use Rattle.token_memory_cache.proofs.laws.a_take_hands_out_the_oldest.Goals as goal

pub returns : goal.returns
returns c = throughout first (λ n z. z) HandsOutTheOldest hands_out_the_oldest c.args.cache.now
