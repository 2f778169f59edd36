use Rattle.std.proofs.Common.{ap, ap₂, ◌∙◌, sym, ◌≡◌}
use Rattle.std.specs.Option.{ok_or, option_flatten}
use Rattle.answers.specs.declared.Refusal.TheVariants.{NoPath}
use Rattle.path_table.specs.Paths.{path, meter_at}
use Rattle.record_pool.specs.Pools.{item_at}
use Rattle.path_table.specs.Tables.{paths}
use Rattle.path_table.proofs.Standing.{path_item, meter_told, sound_told}
use Rattle.path_table.proofs.table.PathTable.meter.Goals as goal

told : (c : goal.After-ok_or) → c.ok_or.result ≡ meter_at (path (paths c.self.inside.pool) c.path.inside.name)
told c =
    c.ok_or.ensures.value ∙ ap (λ o. ok_or o NoPath) (c.flatten.ensures ∙ ap option_flatten c.item.ensures) ∙ meter_told (item_at c.self.inside.pool.records.now c.path.inside.name)
    ∙ ap meter_at (sym (path_item c.self.inside.pool c.path.inside.name))

pub returns-clause-answer : goal.returns-clause-answer
returns-clause-answer c = told c ∙ ap meter_at (ap₂ path c.self.view_is c.path.view_is)

pub returns-clause-sound : goal.returns-clause-sound
returns-clause-sound c = sound_told (path (paths c.self.inside.pool) c.path.inside.name) c.ok_or.result (told c) (λ m e. c.self.invariant.stands.sound c.path.inside.name m e)
