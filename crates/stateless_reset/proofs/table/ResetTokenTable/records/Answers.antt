use Rattle.stateless_reset.proofs.Places.{lends}
use Rattle.stateless_reset.proofs.table.ResetTokenTable.records.Goals as goal

pub returns : goal.returns
returns c = rw (c.records.ensures, ← c.self.view_is) (lends c.self.inside.pool c.self.inside.remembered c.self.invariant)
