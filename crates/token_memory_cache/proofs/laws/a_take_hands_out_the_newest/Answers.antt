use Rattle.std.proofs.Common.{arith}
use Rattle.token_memory_cache.specs.Orders.{last}
use Rattle.token_memory_cache.specs.Histories.{HandsOutTheNewest}
use Rattle.token_memory_cache.proofs.Histories.{hands_out_the_newest, throughout}
use Rattle.token_memory_cache.proofs.laws.a_take_hands_out_the_newest.Goals as goal

pub returns : goal.returns
returns c = throughout last (λ n z. omega arith) HandsOutTheNewest hands_out_the_newest c.args.cache.now
