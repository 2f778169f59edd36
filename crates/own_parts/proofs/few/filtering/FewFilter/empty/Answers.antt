use Rattle.std.proofs.Common.{ap}
use Rattle.filter.specs.Lists.{distinct}
use Rattle.own_parts.proofs.few.filtering.FewFilter.empty.Goals as goal

pub invariant_of-self-clause-apart : goal.invariant_of-self-clause-apart
invariant_of-self-clause-apart c = ap distinct c.clear.ensures.items
