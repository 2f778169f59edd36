use Rattle.token_log.proofs.Starts.{log_answers}
use Rattle.token_log.proofs.laws.a_log_answers_as_its_machine.Goals as goal

pub returns : goal.returns
returns g c says = log_answers g.F.Filter.records g.F.Filter.empties says
