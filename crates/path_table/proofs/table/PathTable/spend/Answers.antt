use Rattle.std.proofs.Common.{rules}
use Rattle.path_table.proofs.Ledger.{turning_adds}
use Rattle.path_table.proofs.table.PathTable.spend.Goals as goal

pub returns-in-Ok-spent-clause-adds : goal.returns-in-Ok-spent-clause-adds
returns-in-Ok-spent-clause-adds c = turning_adds _ _ _ _ _ (search rules)

pub returns-in-Err-clause-adds : goal.returns-in-Err-clause-adds
returns-in-Err-clause-adds c = turning_adds _ _ _ _ _ (search rules)
