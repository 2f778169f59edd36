-- A table of paths: for each name, counted from 1, the path that is open under it, if one is.
use Rattle.std.specs.Prelude.{◌≡◌, ℕ, zero, suc, ◌<◌, ◌≤◌, Bool, nat_lt, List, length, Some, None, Ok, Err, Option, Result, slice_index_or, slice_set, ◌==◌, if◌then◌else◌}
use Rattle.answers.specs.declared.Refusal.{Refusal}
use Rattle.answers.specs.declared.Refusal.TheVariants.{NoPath, GrantsOpen}
use Rattle.path_table.specs.declared.meter.Meter.{Meter}
use Rattle.path_table.specs.Meters.{fresh, validated, received, granted, spent}

abbrev pub Paths : Type 0
Paths = List (Option Meter)

-- the path of a name
abbrev pub path : Paths → ℕ → Option Meter
path ps zero = None
path ps (suc p) = slice_index_or ps p None

abbrev pub with_path : Paths → ℕ → Option Meter → Paths
with_path ps zero o = ps
with_path ps (suc p) o = slice_set ps p o

-- what is counted of a path, or that it is not open
abbrev pub meter_at : Option Meter → Result Meter Refusal
meter_at None = Err NoPath
meter_at (Some m) = Ok m

-- a path opens under any name that no path has; it is refused just where each name has one
abbrev pub Opens : Bool → Paths → Paths → Result ℕ Refusal → Type 0
Opens v ps ps' (Ok p) = (0 < p) × (p ≤ length ps) × (path ps p ≡ None) × (ps' ≡ with_path ps p (Some (fresh v)))
Opens v ps ps' (Err e) = (e ≡ NoPath) × ((p : ℕ) → 0 < p → p ≤ length ps → (m : Meter) × (path ps p ≡ Some m)) × (ps' ≡ ps)

-- what a call asks of the path that it names: a validation, bytes received, a grant, a grant of n bytes of the path q used up
-- as k sent, or its end
pub data Act : Type 0 where
  validates : Act
  receives : ℕ → Act
  grants : ℕ → Act
  spends : (q n k : ℕ) → Act
  closes : Act

abbrev pub still_open : Result Meter Refusal → Result (Option Meter) Refusal
still_open (Ok m) = Ok (Some m)
still_open (Err e) = Err e

-- what the path p becomes, or why the call is refused
abbrev pub turned : ℕ → Act → Meter → Result (Option Meter) Refusal
turned p validates m = Ok (Some (validated m))
turned p (receives n) m = Ok (Some (received n m))
turned p (grants n) m = still_open (granted n m)
turned p (spends q n k) m = if q == p then still_open (spent n k m) else Err NoPath
turned p closes m = if nat_lt 0 m.grants then Err GrantsOpen else Ok None

abbrev pub turned_at : ℕ → Act → Option Meter → Result (Option Meter) Refusal
turned_at p a None = Err NoPath
turned_at p a (Some m) = turned p a m

-- the answer of a call on the path p, and the table it leaves: refused, nothing is altered
abbrev pub told : Result (Option Meter) Refusal → Result (Unit {0}) Refusal
told (Ok o) = Ok tt
told (Err e) = Err e

abbrev pub left : Paths → ℕ → Result (Option Meter) Refusal → Paths
left ps p (Ok o) = with_path ps p o
left ps p (Err e) = ps

pub record Turns (p : ℕ) (a : Act) (ps ps' : Paths) (r : Result (Unit {0}) Refusal) : Type 0 where
  pub answer : r ≡ told (turned_at p a (path ps p))
  pub after : ps' ≡ left ps p (turned_at p a (path ps p))
