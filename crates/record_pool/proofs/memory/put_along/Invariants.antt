use Rattle.std.proofs.Common.{◌≡◌, ◌-◌}
use Rattle.record_pool.specs.Chains.{walk, along}
use Rattle.record_pool.specs.Pools.{links, slots, all_at}
use Rattle.record_pool.proofs.memory.put_along.Given as goal

-- what is still to be written, from this place on, makes of the records what all of it makes of those at the beginning
abbrev pub invariant-loop : goal.invariant-loop
invariant-loop g l = (links l.records ≡ links l.fn.records)
    × (all_at (slots l.records) (walk (l.end - l.counter) (links l.fn.records) l.place) l.item ≡ all_at (slots l.fn.records) (along (links l.fn.records) l.fn.chain) l.item)
