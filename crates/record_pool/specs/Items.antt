-- What an iterator over a chain has still to give.
use Rattle.std.specs.Prelude.{List}
use Rattle.record_pool.specs.declared.items.Items.{Items}
use Rattle.record_pool.specs.Pools.{items_from}

abbrev pub items_left : {X : Type 0} → Items X → List X
items_left it = items_from it.left.count it.records.now it.left.first
