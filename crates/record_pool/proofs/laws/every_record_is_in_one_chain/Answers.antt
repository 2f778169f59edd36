use Rattle.std.proofs.Common.{arith}
use Rattle.record_pool.proofs.Divisions.{record_in_one}
use Rattle.record_pool.proofs.Steps.{met_nth}
use Rattle.record_pool.proofs.laws.every_record_is_in_one_chain.Goals as goal

pub returns-clause-blank : goal.returns-clause-blank
returns-clause-blank g c k p bl e = bl p (let m = met_nth _ k p e in omega arith)

pub returns-clause-one : goal.returns-clause-one
returns-clause-one g c chains p d lo hi = record_in_one c.args.pool.now chains p d lo hi
