use Rattle.std.proofs.Common.{rules, bit_xor}
use Rattle.answers.proofs.Calls.{mapped}
use Rattle.sha256.proofs.hmac.mask.Goals as goal

pub returns : goal.returns
returns c = mapped _ _ (λ b. bit_xor b c.args.pad) 64 c.args.block.now c.map.result c.told-block (λ x y q e. search rules) c.map.ensures.items
