-- What the records of a table mean. Each open path is a chain of its own, and a record that is free holds none.
use Rattle.std.specs.Prelude.{◌≡◌, ℕ, ◌≤◌, List, map, Some, None, Option}
use Rattle.record_pool.specs.declared.chain.Chain.{Chain}
use Rattle.record_pool.specs.declared.pool.Pool.{Pool}
use Rattle.record_pool.specs.Chains.{times}
use Rattle.record_pool.specs.Pools.{Blanked, Divided}
use Rattle.path_table.specs.declared.meter.Meter.{Meter}
use Rattle.path_table.specs.Meters.{Sound}
use Rattle.path_table.specs.Paths.{Paths, path}

-- the chain of the path of this name
abbrev pub alone : ℕ → Chain
alone p = record { first = p; count = 1 }

-- a path's handle: its name, and its chain
abbrev pub Named : ℕ → Chain → Type 0
Named p c = c ≡ alone p

abbrev pub paths : Pool (Option Meter) → Paths
paths pool = map (λ r. r.item) pool.records.now

-- the paths of these names are open, and no others
pub record Stands (pool : Pool (Option Meter)) (names : List ℕ) : Type 0 where
  pub divided : Divided pool (map alone names)
  pub blanked : Blanked pool
  pub blank : pool.blank ≡ None
  pub open_here : (p : ℕ) → 1 ≤ times p names → (m : Meter) × (path (paths pool) p ≡ Some m)
  pub sound : (p : ℕ) (m : Meter) → path (paths pool) p ≡ Some m → Sound m

pub record Standing (pool : Pool (Option Meter)) : Type 0 where
  pub names : List ℕ
  pub stands : Stands pool names
