use Rattle.std.proofs.Common.{rules}
use Rattle.path_table.proofs.Ledger.{turning_adds}
use Rattle.path_table.proofs.table.PathTable.grant.Goals as goal

pub returns-in_err-meter-clause-adds : goal.returns-in_err-meter-clause-adds
returns-in_err-meter-clause-adds c = turning_adds _ _ _ _ _ (search rules)

pub returns-in_err-grant-clause-adds : goal.returns-in_err-grant-clause-adds
returns-in_err-grant-clause-adds c = turning_adds _ _ _ _ _ (search rules)

pub returns-clause-adds : goal.returns-clause-adds
returns-clause-adds c = turning_adds _ _ _ _ _ (search rules)
