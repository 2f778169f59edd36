use Rattle.std.proofs.Common.{[], arith, rules, refl, sym, ◌∙◌}
use Rattle.record_pool.specs.Chains.{empty_chain}
use Rattle.token_memory_cache.proofs.Shelving.{length-items, few_listed, read, taken_off}
use Rattle.token_memory_cache.proofs.shelf.Shelf.take_off.Goals as goal

pub overflow_cast-k : goal.overflow_cast-k
overflow_cast-k c =
    let few = few_listed c.args.self.now [] c.requires.stands in
    let there = c.requires.there in
    search (rules, few, there)

pub unwrap-requires : goal.unwrap-requires
unwrap-requires c =
    let s = c.args.self.now in
    rw (c.remove.ensures.answer ∙ read s.names s.used [] c.args.k (record { name = []; tokens = empty_chain }) c.requires.stands.names c.requires.there) refl

pub returns : goal.returns
returns c =
    let s = c.args.self.now in
    let l = length-items s.names s.used [] c.requires.stands.names in
    taken_off s c.remove.new.self c.remove.new.chain _ _ c.args.k c.unwrap.result c.requires.stands c.requires.there
    (c.remove.ensures.chains [] (omega arith) c.requires.stands.names) (sym c.remove.ensures.answer ∙ c.unwrap.ensures)
