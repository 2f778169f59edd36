use Rattle.filter.proofs.Going.{set_answers_by}
use Rattle.filter.proofs.laws.sets_answer_by_what_they_recorded.Goals as goal

pub returns : goal.returns
returns c = set_answers_by
