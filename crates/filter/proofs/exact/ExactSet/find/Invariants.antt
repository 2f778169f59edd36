use Rattle.std.proofs.Common.{length, vec_items}
use Rattle.filter.proofs.Walks.{Walk}
use Rattle.filter.proofs.exact.ExactSet.find.Given as goal

abbrev pub invariant-loop-at : goal.invariant-loop-at
invariant-loop-at l = Walk (length (vec_items l.self.heads)) (vec_items l.self.held) l.f l.at

abbrev pub decreases-loop-at : goal.decreases-loop-at
decreases-loop-at l = l.at
