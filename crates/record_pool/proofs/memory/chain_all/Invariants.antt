use Rattle.std.proofs.Common.{◌≡◌, ℕ, ◌-◌, ◌≤◌, slice_index, take, replicate, Some}
use Rattle.record_pool.specs.Pools.{links}
use Rattle.record_pool.proofs.Writes.{cells}
use Rattle.record_pool.proofs.memory.chain_all.Given as goal

abbrev pub invariant-loop-i : goal.invariant-loop-i
invariant-loop-i g l = ((k : ℕ) → k ≤ l.i → slice_index (links l.records) k ≡ k - 1) × (take l.i (cells l.records) ≡ replicate l.i (Some l.item))
