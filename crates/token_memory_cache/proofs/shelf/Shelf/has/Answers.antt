use Rattle.std.proofs.Common.{rules, tests}
use Rattle.std.specs.Str.{bytes_eq}
use Rattle.std.proofs.lemmas.Iterator.Consumers.{YieldsList-from_first}
use Rattle.std.proofs.lemmas.Iterator.Search.{any_from_yields_List}
use Rattle.record_pool.specs.Items.{items_left}
use Rattle.token_memory_cache.proofs.shelf.Shelf.has.Goals as goal

pub returns : goal.returns
returns c = any_from_yields_List (bytes_eq c.args.token.now) c.any.new.self _ _ c.any.ensures.ran
    (YieldsList-from_first (λ x. x.now) items_left {s = c.items.result} _ c.items.ensures.answer) (λ x b q k. search (rules, tests))
