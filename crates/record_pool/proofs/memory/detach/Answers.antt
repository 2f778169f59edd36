use Rattle.std.proofs.Common.{◌≡◌, ℕ, suc, ◌-◌, length, slice_index, sym, ap, ◌∙◌, arith}
use Rattle.record_pool.specs.Chains.{follow}
use Rattle.record_pool.specs.Pools.{links}
use Rattle.record_pool.proofs.Cells.{length-links}
use Rattle.record_pool.proofs.Runs.{follow_more}
use Rattle.record_pool.proofs.Sharing.{detached_first, detached_later}
use Rattle.record_pool.proofs.memory.detach.Goals as goal

pub returns-then-k-eq0-clause-chains : goal.returns-then-k-eq0-clause-chains
returns-then-k-eq0-clause-chains g c others sh =
    detached_first (length c.args.records.now) (links c.args.records.now) (links c.link.new.records) c.args.chain c.args.k c.next_of-next.result others
    (length-links c.args.records.now) (omega arith) (omega arith) sh c.next_of-next.ensures c.link.ensures.links

pub returns-clause-first : goal.returns-clause-first
returns-clause-first g c =
    let nx = links c.args.records.now in
    let s : suc (c.args.k - 1) ≡ c.args.k = omega arith in
    c.next_of-place.ensures ∙ ap (λ (p : ℕ). slice_index nx p) c.place_of-before.ensures ∙ sym (follow_more (c.args.k - 1) nx c.args.chain.first)
    ∙ ap (λ (m : ℕ). follow m nx c.args.chain.first) s

pub returns-clause-chains : goal.returns-clause-chains
returns-clause-chains g c others sh =
    detached_later (length c.args.records.now) (links c.args.records.now) (links c.link-2.new.records) (links c.link-3.new.records)
    c.args.chain c.args.k c.place_of-before.result c.next_of-place.result c.next_of-after.result others
    (length-links c.args.records.now) (omega arith) (omega arith) sh
    c.place_of-before.ensures c.next_of-place.ensures c.next_of-after.ensures c.link-2.ensures.links c.link-3.ensures.links
