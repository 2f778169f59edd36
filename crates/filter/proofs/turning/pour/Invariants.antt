use Rattle.std.proofs.Common.{take}
use Rattle.filter.specs.Turning.{Poured}
use Rattle.filter.proofs.turning.pour.Given as goal

abbrev pub invariant-loop-i : goal.invariant-loop-i
invariant-loop-i g l = Poured g.B.Filter.records (take l.i (g.S.ListingFilter.listed l.set)) l.initial.other l.other
