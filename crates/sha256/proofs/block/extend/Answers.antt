use Rattle.std.proofs.Common.{◌∙◌, set, refl, ap, arith}
use Rattle.sha256.specs.Block.{extended}
use Rattle.sha256.proofs.Schedules.{extended_more}
use Rattle.sha256.proofs.block.extend.Goals as goal

pub loop-t-init : goal.loop-t-init
unfolding extended
loop-t-init c = refl

pub loop-t-preserved : goal.loop-t-preserved
loop-t-preserved c = ap (set c.loop-t.w c.loop-t.t) c.next_word.ensures ∙ extended_more c.loop-t.t c.loop-t.w c.args.words (omega arith) c.loop-t.invariant
