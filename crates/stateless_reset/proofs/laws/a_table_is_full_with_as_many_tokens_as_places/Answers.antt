use Rattle.stateless_reset.proofs.Remembering.{refused_at_places}
use Rattle.stateless_reset.proofs.laws.a_table_is_full_with_as_many_tokens_as_places.Goals as goal

pub returns : goal.returns
returns c = λ places xs w. refused_at_places places c.args.table.now xs w
