use Rattle.filter.proofs.TurningGoes.{turning_answers}
use Rattle.filter.proofs.laws.turning_filters_answer_by_what_they_recorded.Goals as goal

pub returns : goal.returns
returns g c = turning_answers g.B.Filter.records g.B.Filter.empties
