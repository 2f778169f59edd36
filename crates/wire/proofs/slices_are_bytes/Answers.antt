use Rattle.std.proofs.Common.{arith}
use Rattle.wire.proofs.Numbers.{bytes_from}
use Rattle.wire.proofs.slices_are_bytes.Goals as goal

pub returns : goal.returns
returns c = bytes_from c.args.bytes.now (λ i. let fits = c.type_inv.bytes i in omega arith)
