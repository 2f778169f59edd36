use Rattle.stateless_reset.proofs.Remembering.{told}
use Rattle.stateless_reset.proofs.laws.a_datagram_is_a_reset_just_if_its_token_was_given.Goals as goal

pub returns : goal.returns
returns c = λ places xs w. told places c.args.table.now xs w
