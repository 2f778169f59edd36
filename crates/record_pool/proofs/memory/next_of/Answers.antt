use Rattle.std.proofs.Common.{arith}
use Rattle.std.proofs.lemmas.Grind.{common_steps}
use Rattle.record_pool.proofs.Cells.{links-at, links_none}
use Rattle.record_pool.proofs.memory.next_of.Goals as goal

pub returns : goal.returns
returns g c = grind (arith, common_steps, links-at, links_none)
