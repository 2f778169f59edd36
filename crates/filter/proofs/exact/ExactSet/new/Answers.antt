use Rattle.filter.proofs.Walks.{headed_none, chained_none}
use Rattle.filter.proofs.exact.ExactSet.new.Goals as goal

pub invariant_of-result-clause-headed : goal.invariant_of-result-clause-headed
invariant_of-result-clause-headed c = headed_none _ _ _ c.clear.ensures.items (rw c.unwrap-heads.ensures at c.filled.ensures.cases)

pub invariant_of-result-clause-chained : goal.invariant_of-result-clause-chained
invariant_of-result-clause-chained c = chained_none _ _ _ c.clear.ensures.items
