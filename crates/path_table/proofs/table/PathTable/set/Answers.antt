use Rattle.std.proofs.Common.{Some, ap₂, ◌∙◌, ◌≡◌}
use Rattle.path_table.specs.Paths.{path, with_path}
use Rattle.path_table.specs.Tables.{paths}
use Rattle.path_table.proofs.Standing.{put_paths, set_stands}
use Rattle.path_table.proofs.table.PathTable.set.Goals as goal

pub invariant_of-self : goal.invariant_of-self
invariant_of-self c =
    let o = c.requires.open in
    let e : path (paths c.self.inside.pool) c.path.inside.name ≡ Some o.0 = ap₂ path c.self.view_is c.path.view_is ∙ o.1 in
    record {
      names = c.self.invariant.names;
      stands = set_stands c.self.inside.pool c.set_item.new.self c.self.invariant.names c.self.invariant.stands c.path.inside.name o.0 c.args.meter e c.requires.sound
          c.set_item.ensures.leaves c.set_item.ensures.chains;
    }

pub returns : goal.returns
returns c =
    put_paths c.self.inside.pool c.set_item.new.self c.path.inside.name (Some c.args.meter) c.set_item.ensures.leaves.slots
    ∙ ap₂ (λ ps p. with_path ps p (Some c.args.meter)) c.self.view_is c.path.view_is
