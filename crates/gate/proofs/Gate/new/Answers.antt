use Rattle.answers.specs.Successions.Succession.{new}
use Rattle.gate.proofs.Gate.new.Goals as goal

pub returns-clause-fresh : goal.returns-clause-fresh
returns-clause-fresh g c = new
