use Rattle.bloom.proofs.Going.{bloom_answers_by, bloom_takes}
use Rattle.bloom.proofs.laws.bloom_filters_answer_by_what_they_recorded.Goals as goal

pub returns-clause-answers : goal.returns-clause-answers
returns-clause-answers g c = bloom_answers_by

pub returns-clause-takes : goal.returns-clause-takes
returns-clause-takes g c = bloom_takes
