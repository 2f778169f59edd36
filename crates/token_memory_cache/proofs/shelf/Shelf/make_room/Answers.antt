use Rattle.std.proofs.Common.{[], arith, refl, sym, ◌∙◌}
use Rattle.record_pool.specs.Chains.{empty_chain}
use Rattle.token_memory_cache.proofs.Shelving.{length-items, read, room_there, roomed}
use Rattle.token_memory_cache.proofs.shelf.Shelf.make_room.Goals as goal

pub unwrap-entry-requires : goal.unwrap-entry-requires
unwrap-entry-requires c =
    let s = c.args.self.now in
    let l = length-items s.names s.used [] c.requires.stands.names in
    let z = c.requires.some in
    rw (c.remove.ensures.answer ∙ read s.names s.used [] 0 (record { name = []; tokens = empty_chain }) c.requires.stands.names (omega arith)) refl

pub returns-then-len-most : goal.returns-then-len-most
returns-then-len-most c = room_there c.args.self.now c.args.most c.requires.stands (omega arith)

pub returns : goal.returns
returns c =
    let s = c.args.self.now in
    let z = c.requires.some in
    roomed s c.remove.new.self c.release.new.self c.remove.new.chain c.release.new.chain _ _ _ c.args.most c.unwrap-entry.result c.requires.stands z (omega arith)
    (c.remove.ensures.chains [] (omega arith) c.requires.stands.names) (sym c.remove.ensures.answer ∙ c.unwrap-entry.ensures) c.release.ensures.chains c.release.ensures.empty
