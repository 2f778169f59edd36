use Rattle.record_pool.proofs.Divisions.{to_front, from_front}
use Rattle.record_pool.proofs.laws.chains_have_no_order.Goals as goal

pub returns : goal.returns
returns g c = record {
  front = λ front back chain d. to_front c.args.pool.now front back chain d;
  within = λ front back chain d. from_front c.args.pool.now front back chain d;
}
