use Rattle.path_table.proofs.Ledger.{never_too_much}
use Rattle.path_table.proofs.laws.an_unvalidated_path_is_never_sent_too_much.Goals as goal

pub returns : goal.returns
returns c = never_too_much c.args.table.now
