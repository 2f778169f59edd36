use Rattle.std.proofs.Common.{◌≡◌, ◌+◌, ◌%◌, ◌<◌, sym, refl, ◌∙◌, mod-eq_of_lt, arith}
use Rattle.bloom.proofs.Positions.{ahead_none, ahead_more, past_end}
use Rattle.bloom.proofs.bits.PositionsIterator.next.Goals as goal
use Rattle.bloom.proofs.bits.PositionsIterator.next.Goals.{then-sum-self, else-sum-self}

pub returns-then-self-eq0-clause-steps : goal.returns-then-self-eq0-clause-steps
returns-then-self-eq0-clause-steps c = (refl, (ahead_none _ _ _ _ c.if-self-eq0.true, refl))

pub returns-clause-steps : goal.returns-clause-steps
returns-clause-steps c =
    let s = c.args.self.now in
    let q : c.if-sum-self.self ≡ (s.at + s.step) % s.bits = elim c.if-sum-self.branch [
      | then-sum-self w ↦ (let l : s.at + s.step < s.bits = omega arith in w.self-is ∙ sym (mod-eq_of_lt l))
      | else-sum-self w ↦ past_end s.bits s.at s.step _ s.inside s.short (omega arith) w.self-is
    ] in
    (refl, (s.inside, ahead_more s.bits s.step s.at s.left _ _ (omega arith) q))
