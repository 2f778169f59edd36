use Rattle.std.proofs.Common.{◌≡◌, Some, None, ap₂, ◌∙◌}
use Rattle.path_table.specs.Paths.{path, with_path}
use Rattle.path_table.specs.Tables.{paths}
use Rattle.path_table.proofs.Standing.{closed_is, closed_standing}
use Rattle.path_table.proofs.table.PathTable.free.Goals as goal

open_here : (c : goal.After-release) → path (paths c.self.inside.pool) c.path.inside.name ≡ Some c.requires.open.0
open_here c = ap₂ path c.self.view_is c.path.view_is ∙ c.requires.open.1

pub invariant_of-self : goal.invariant_of-self
invariant_of-self c =
    closed_standing c.self.inside.pool c.release.new.self c.path.inside.chain c.release.new.chain c.self.invariant.names c.self.invariant.stands
    c.path.inside.name c.requires.open.0 (open_here c) c.path.invariant c.release.ensures.empty c.release.ensures.leaves c.release.ensures.chains

pub returns : goal.returns
returns c =
    closed_is c.self.inside.pool c.release.new.self c.path.inside.chain c.release.new.chain c.self.invariant.names c.self.invariant.stands
    c.path.inside.name c.requires.open.0 (open_here c) c.path.invariant c.release.ensures.empty c.release.ensures.leaves c.release.ensures.chains
    ∙ ap₂ (λ ps p. with_path ps p None) c.self.view_is c.path.view_is
