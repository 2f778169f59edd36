use Rattle.worked_examples.proofs.Holding.{holds}
use Rattle.worked_examples.proofs.the_worked_examples_hold.Goals as goal

pub returns : goal.returns
returns c = holds
