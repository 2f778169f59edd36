use Rattle.std.proofs.Common.{sym, ap, ◌∙◌}
use Rattle.filter.specs.Lists.{distinct}
use Rattle.filter.proofs.Members.{distinct_push}
use Rattle.own_parts.proofs.few.filtering.FewFilter.record.Goals as goal

pub invariant_of-self-clause-apart : goal.invariant_of-self-clause-apart
invariant_of-self-clause-apart c = ap distinct c.push_reserved.ensures.items ∙ distinct_push _ c.args.f c.args.self.now.apart (sym c.has.ensures ∙ c.if-has.false)
