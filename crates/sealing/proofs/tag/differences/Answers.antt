use Rattle.sealing.proofs.Joining.{joined_more}
use Rattle.sealing.proofs.tag.differences.Goals as goal

pub loop-j-preserved : goal.loop-j-preserved
loop-j-preserved c = joined_more c.args.bytes.now c.args.tag.now c.loop-j.j c.loop-j.joined c.loop-j.invariant
