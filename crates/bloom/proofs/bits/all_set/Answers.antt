use Rattle.std.proofs.Common.{ap, ◌∙◌}
use Rattle.std.specs.List.{list_all}
use Rattle.bloom.specs.Bits.{bit, ahead}
use Rattle.bloom.specs.BitLaws.{all_from_first}
use Rattle.bloom.specs.declared.bits.Positions.{Positions}
use Rattle.bloom.proofs.bits.all_set.Goals as goal

pub loop-at-init : goal.loop-at-init
loop-at-init g c =
    let test = bit (g.W.Words.words c.args.memory.now) in
    let made = c.into_iter-at-iterator.ensures.into_iter_gives in (
      tt,
      tt,
      ap (λ (i : Positions). i.bits) made ∙ c.of-at-items.ensures.bits,
      ap (λ (i : Positions). list_all test (ahead i.bits i.step i.at i.left)) made
          ∙ ap (list_all test) c.of-at-items.ensures.all
          ∙ all_from_first (g.W.Words.words c.args.memory.now) c.args.bits c.args.f c.args.k,
    )
