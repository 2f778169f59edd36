use Rattle.std.proofs.Common.{ap, arith}
use Rattle.bloom.specs.HashCount.{hashes_for}
use Rattle.bloom.proofs.HalfBudget.{by_half_as_for_twice}
use Rattle.bloom.proofs.hash_count.half_the_budget_has_half_the_bits.Goals as goal

pub returns-clause-budgets : goal.returns-clause-budgets
returns-clause-budgets c = λ budget hits. ap (λ bits. hashes_for bits hits) (omega arith)

pub returns-clause-hits : goal.returns-clause-hits
returns-clause-hits c = by_half_as_for_twice
