use Rattle.std.proofs.Common.{◌∙◌, arith, length-set}
use Rattle.sealing.specs.Checks.{column-added, still_byte, all_checked}
use Rattle.sealing.proofs.bench.check_bytes.Goals as goal

pub loop-i-preserved : goal.loop-i-preserved
loop-i-preserved c =
    let sums = c.loop-i.sums in
    let inv = c.loop-i.invariant in (
      length-set _ _ _ ∙ inv.0,
      λ j h. column-added sums c.args.content.now c.loop-i.i j _ inv.0 (omega arith) (inv.1 j h),
      λ j h. still_byte sums _ _ j inv.0 h (inv.2 j h),
    )

pub returns : goal.returns
returns c =
    let inv = c.loop-i.invariant in
    all_checked c.args.key.now c.args.nonce.now c.args.content.now c.loop-i.sums c.loop-i.i inv.0 c.loop-i-test.false inv.2 inv.1
