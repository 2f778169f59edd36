use Rattle.std.proofs.Common.{rules, tests, ◌∙◌, ap}
use Rattle.std.specs.Str.{bytes_eq}
use Rattle.std.proofs.lemmas.Iterator.Consumers.{YieldsList-from_first}
use Rattle.std.proofs.lemmas.Iterator.Search.{any_from_yields_List}
use Rattle.record_pool.specs.Items.{items_left}
use Rattle.stateless_reset.specs.Tables.{has}
use Rattle.stateless_reset.proofs.table.ResetTokenTable.has.Goals as goal

pub returns : goal.returns
returns c =
    any_from_yields_List (λ t. bytes_eq t c.args.bytes.now) c.any.new.self _ _ c.any.ensures.ran
    (YieldsList-from_first (λ x. x.now) items_left {s = c.items.result} _ c.items.ensures.answer) (λ x b q k. search (rules, tests))
    ∙ ap (λ t. has t.tokens c.args.bytes.now) c.self.view_is
