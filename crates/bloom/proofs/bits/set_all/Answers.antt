use Rattle.std.proofs.Common.{ap, ◌∙◌}
use Rattle.bloom.specs.Bits.{ahead}
use Rattle.bloom.specs.declared.bits.Positions.{Positions}
use Rattle.bloom.proofs.Storing.{begins, goes_on, ends}
use Rattle.bloom.proofs.bits.set_all.Goals as goal

pub loop-at-init : goal.loop-at-init
loop-at-init g c =
    let made = c.into_iter-at-iterator.ensures.into_iter_gives in (
      tt,
      tt,
      ap (λ (i : Positions). i.bits) made ∙ c.of-at-items.ensures.bits,
      begins g.W.Words.stores g.W.Words.words c.args.memory.now c.args.bits c.args.f c.args.k _
          (ap (λ (i : Positions). ahead i.bits i.step i.at i.left) made ∙ c.of-at-items.ensures.all),
    )

pub loop-at-preserved : goal.loop-at-preserved
loop-at-preserved g c =
    let i = c.loop-at.at-iterator in
    let n = c.next.new.self in (
      tt,
      tt,
      c.in-Some.ensures.steps.0 ∙ c.loop-at.invariant.2,
      goes_on g.W.Words.stores g.W.Words.words c.args.memory.now c.loop-at.memory c.set_bit.new.memory c.args.bits c.args.f c.args.k c.in-Some.at
          (ahead i.bits i.step i.at i.left) (ahead n.bits n.step n.at n.left) c.in-Some.ensures.steps.1.1 c.loop-at.invariant.3 c.set_bit.ensures,
    )

pub returns : goal.returns
returns g c =
    let i = c.loop-at.at-iterator in
    ends g.W.Words.stores g.W.Words.words c.args.memory.now c.loop-at.memory c.args.bits c.args.f c.args.k (ahead i.bits i.step i.at i.left) c.in-None.ensures.steps.1.0 c.loop-at.invariant.3
