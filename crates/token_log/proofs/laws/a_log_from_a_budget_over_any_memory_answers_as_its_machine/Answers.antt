use Rattle.token_log.proofs.Starts.{budgets_answer}
use Rattle.token_log.proofs.laws.a_log_from_a_budget_over_any_memory_answers_as_its_machine.Goals as goal

pub returns : goal.returns
returns g c budget k n = budgets_answer budget k n
