use Rattle.token_log.proofs.Starts.{sets_answer}
use Rattle.token_log.proofs.laws.a_log_over_sets_answers_as_its_machine.Goals as goal

pub returns : goal.returns
returns c = sets_answer
