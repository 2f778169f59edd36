use Rattle.std.proofs.Common.{◌≡◌}
use Rattle.sealing.specs.Sealing.{SameTo}
use Rattle.sealing.proofs.tag.differences.Given as goal

abbrev pub invariant-loop-j : goal.invariant-loop-j
invariant-loop-j l = (l.joined ≡ 0 → SameTo l.j l.bytes l.tag) × (SameTo l.j l.bytes l.tag → l.joined ≡ 0)
