use Rattle.std.proofs.Common.{ℕ, ◌∷◌, length, sym, ap, ◌∙◌}
use Rattle.record_pool.specs.Chains.{follow}
use Rattle.record_pool.specs.Pools.{links}
use Rattle.record_pool.proofs.Divisions.{chain_end, last_link}
use Rattle.record_pool.proofs.laws.every_chain_ends_in_zero.Goals as goal

pub returns : goal.returns
returns g c = record {
  last = λ chains front back chain k d e ec. last_link (length c.args.pool.now.records.now) (links c.args.pool.now.records.now) (c.args.pool.now.free ∷ chains) front back chain k d.shared e ec;
  empty = λ chains front back chain d e z. ap (λ (k : ℕ). follow k (links c.args.pool.now.records.now) chain.first) (sym z)
      ∙ chain_end (length c.args.pool.now.records.now) (links c.args.pool.now.records.now) (c.args.pool.now.free ∷ chains) front back chain d.shared e;
}
