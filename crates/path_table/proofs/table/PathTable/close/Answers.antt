use Rattle.std.proofs.Common.{rules}
use Rattle.path_table.proofs.Ledger.{turning_adds}
use Rattle.path_table.proofs.table.PathTable.close.Goals as goal

pub returns-in-Ok-2-clause-adds : goal.returns-in-Ok-2-clause-adds
returns-in-Ok-2-clause-adds c = turning_adds _ _ _ _ _ (search rules)

pub returns-clause-adds : goal.returns-clause-adds
returns-clause-adds c = turning_adds _ _ _ _ _ (search rules)
