use Rattle.std.proofs.Common.{rules}
use Rattle.answers.proofs.Calls.{made}
use Rattle.ccm.specs.Mode.{xored, xor_at}
use Rattle.ccm.proofs.mode.xor.Goals as goal

pub returns : goal.returns
unfolding xored
returns c = made _ _ (xor_at c.args.a c.args.b) 16 c.from_fn.result (λ k y q l e. search rules) c.from_fn.ensures.items
