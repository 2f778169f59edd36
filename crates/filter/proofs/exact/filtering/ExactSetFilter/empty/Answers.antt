use Rattle.std.proofs.Common.{ap}
use Rattle.filter.specs.Lists.{distinct}
use Rattle.filter.proofs.Walks.{headed_none, chained_none}
use Rattle.filter.proofs.exact.filtering.ExactSetFilter.empty.Goals as goal

pub invariant_of-self-clause-apart : goal.invariant_of-self-clause-apart
invariant_of-self-clause-apart c = ap distinct c.clear.ensures.items

pub invariant_of-self-clause-headed : goal.invariant_of-self-clause-headed
invariant_of-self-clause-headed c = headed_none _ _ _ c.clear.ensures.items (c.fill.ensures.items (λ y e. e))

pub invariant_of-self-clause-chained : goal.invariant_of-self-clause-chained
invariant_of-self-clause-chained c = chained_none _ _ _ c.clear.ensures.items
