use Rattle.filter.specs.Histories.{turning_says}
use Rattle.bloom.specs.Marks.{bloom_says}
use Rattle.bloom.specs.Sizes.{bits_for}
use Rattle.gate.proofs.laws.a_gate_over_a_budget_answers_as_its_machine.Goals as goal

pub returns : goal.returns
returns g c budget k n start b =
    c.a_gate_answers_as_its_log.ensures (turning_says n (bloom_says (bits_for budget) k)) start (c.a_log_from_a_budget_answers_as_its_machine.ensures budget k n start.log b)
