use Rattle.token_log.proofs.Starts.{bloom_filters_answer}
use Rattle.token_log.proofs.laws.a_log_over_bloom_filters_answers_as_its_machine.Goals as goal

pub returns : goal.returns
returns g c = bloom_filters_answer
