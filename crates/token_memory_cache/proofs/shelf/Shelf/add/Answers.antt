use Rattle.std.proofs.Common.{arith, sym, ◌∙◌}
use Rattle.record_pool.specs.Pools.{items}
use Rattle.token_memory_cache.specs.Shelves.{chains}
use Rattle.token_memory_cache.proofs.Shelving.{Middle, dropped, popped, not_full, free_token, refilled}
use Rattle.token_memory_cache.proofs.shelf.Shelf.add.Goals.{then-len-most, else-len-most}
use Rattle.token_memory_cache.proofs.shelf.Shelf.add.Goals as goal

pub returns : goal.returns
returns c =
    let s = c.args.self.now in
    let st = c.requires.stands in
    let z = c.requires.room.some in
    let k : Middle s c.if-len-most.self c.if-len-most.tokens (dropped c.args.most (items s.tokens c.args.tokens.now))
    = elim c.if-len-most.branch [
      | then-len-most w ↦ rw (w.self-is, w.tokens-is) (popped s w.remove.new.self c.args.tokens.now w.remove.new.chain _ _ c.args.most st (omega arith) (w.remove.ensures.chains (chains s) (omega arith) st.tokens))
      | else-len-most w ↦ rw (w.self-is, w.tokens-is) (not_full s c.args.tokens.now c.args.most st (omega arith))
    ] in
    let pushed = c.push_back.ensures.chains (chains s) (free_token s c.if-len-most.self c.args.tokens.now c.if-len-most.tokens c.args.most st c.requires.room k) k.holds.divided in
    refilled s c.if-len-most.self c.push_back.new.self c.args.tokens.now c.if-len-most.tokens c.push_back.new.chain _ _ c.args.most c.args.token.now st
    (sym c.has.ensures ∙ c.if-has.false) k (rw c.of.ensures at pushed)
