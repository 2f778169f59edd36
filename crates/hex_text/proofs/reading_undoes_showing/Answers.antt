use Rattle.std.proofs.Common.{rules}
use Rattle.hex_text.proofs.Showing.{read_back}
use Rattle.hex_text.proofs.reading_undoes_showing.Goals as goal

pub returns : goal.returns
returns c = read_back c.args.bytes.now (λ i. let f = c.type_inv.bytes i in search (rules, f))
