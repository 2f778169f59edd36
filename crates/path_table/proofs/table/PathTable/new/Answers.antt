use Rattle.std.proofs.Common.{length}
use Rattle.path_table.proofs.Standing.{blank_paths, new_standing}
use Rattle.path_table.proofs.table.PathTable.new.Goals as goal

pub returns-clause-made : goal.returns-clause-made
returns-clause-made c = blank_paths c.in_ok-pool.pool (length c.args.records.now) c.in_ok-pool.ensures.items.0

pub invariant_of-result : goal.invariant_of-result
invariant_of-result c =
    new_standing c.in_ok-pool.pool (length c.args.records.now) c.in_ok-pool.ensures.made.0 c.in_ok-pool.ensures.blanked c.in_ok-pool.ensures.items.1 (returns-clause-made c)
