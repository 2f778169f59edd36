use Rattle.std.proofs.Common.{◌≡◌, ℕ, suc, ◌+◌, ◌-◌, List, slice_index, ap, ap₂, ◌∙◌, arith}
use Rattle.record_pool.specs.Chains.{walk}
use Rattle.record_pool.specs.Pools.{links, slots, all_at}
use Rattle.record_pool.proofs.memory.put_along.Goals as goal

pub loop-preserved : goal.loop-preserved
loop-preserved g c =
    let nx = links c.args.records.now in
    let left = c.args.chain.count - (c.loop.counter + 1) in
    let one : suc left ≡ c.args.chain.count - c.loop.counter = omega arith in (
      c.put.ensures.links ∙ c.loop.invariant.0,
      ap₂ (λ ys p. all_at ys (walk left nx p) c.args.item) c.put.ensures.slots
          (c.next_of-place.ensures ∙ ap (λ (mx : List ℕ). slice_index mx c.loop.place) (c.put.ensures.links ∙ c.loop.invariant.0))
          ∙ ap (λ (k : ℕ). all_at (slots c.loop.records) (walk k nx c.loop.place) c.args.item) one ∙ c.loop.invariant.1,
    )
