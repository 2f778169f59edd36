use Rattle.std.proofs.Common.{◌≡◌, replicate, vec_items, vec_capacity}
use Rattle.filter.proofs.memory.filled.Given as goal

abbrev pub invariant-loop : goal.invariant-loop
invariant-loop g l = (vec_items l.memory ≡ replicate l.counter l.value) × (vec_capacity l.memory ≡ vec_capacity l.initial.memory)
