use Rattle.std.proofs.Common.{◌≡◌, ◌-◌, min, length, refl, ap, ◌∙◌, arith}
use Rattle.ccm.specs.Masks.{block_laid}
use Rattle.ccm.proofs.mode.content_block.Goals as goal

pub returns : goal.returns
returns c = block_laid 16 c.args.part.now c.copy_from_slice.new.self 0 c.min-len.result refl c.copy_from_slice.ensures.after
    (c.min-len.ensures ∙ ap (λ k. min k 16) (let e : length c.args.part.now ≡ length c.args.part.now - 0 = omega arith in e))
