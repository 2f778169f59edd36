use Rattle.std.proofs.Common.{inl, length, ap, ◌∙◌, arith, rules, tests}
use Rattle.std.specs.Str.{bytes_eq}
use Rattle.std.proofs.lemmas.Iterator.Consumers.{YieldsList-from_first}
use Rattle.std.proofs.lemmas.Iterator.Search.{position_from_yields_List}
use Rattle.record_pool.specs.Items.{items_left}
use Rattle.token_memory_cache.specs.Shelves.{listed, entry_in}
use Rattle.token_memory_cache.proofs.Finding.{called, position_map}
use Rattle.token_memory_cache.proofs.shelf.Shelf.find.Goals as goal

pub position-requires-clause-fits : goal.position-requires-clause-fits
position-requires-clause-fits c = inl (omega (arith, ap length c.items.ensures.answer))

pub returns : goal.returns
returns c =
    let s = c.args.self.now in
    position_from_yields_List (λ e. bytes_eq c.args.name.now e.name) c.position.new.self _ _ c.position.ensures.ran
    (YieldsList-from_first (λ x. x.now) items_left {s = c.items.result} _ c.items.ensures.answer) (λ x b q k. search (rules, tests))
    ∙ position_map (called c.args.name.now) (entry_in s.tokens) (listed s)
