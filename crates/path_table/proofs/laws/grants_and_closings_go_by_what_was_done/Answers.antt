use Rattle.path_table.proofs.Ledger.{always_fair}
use Rattle.path_table.proofs.laws.grants_and_closings_go_by_what_was_done.Goals as goal

pub returns : goal.returns
returns c = always_fair c.args.table.now
