-- Reading one field after another.
use Rattle.std.specs.Prelude.{ℕ, ◌+◌, List, length, take, drop, Ok, Err, Result, nat_lt, if◌then◌else◌}
use Rattle.answers.specs.declared.Fault.{Fault}
use Rattle.answers.specs.declared.Fault.TheVariants.{Short}

-- go on with what was read; a fault passes unaltered
abbrev pub and_then : {A B E : Type 0} → Result A E → (A → Result B E) → Result B E
and_then (Ok a) f = f a
and_then (Err e) f = Err e

-- a reader: the field at the front of the bytes, and how many bytes it takes
abbrev pub Reader : Type 0 → Type 0
Reader A = List ℕ → Result (A × ℕ) Fault

-- the first n bytes
abbrev pub octets : ℕ → List ℕ → Result (List ℕ) Fault
octets n bs = if nat_lt (length bs) n then Err Short else Ok (take n bs)

-- one field, and another behind it
abbrev pub both : {A B : Type 0} → Reader A → Reader B → Reader (A × B)
both first second bs = and_then (first bs) (λ a. and_then (second (drop a.1 bs)) (λ b. Ok ((a.0, b.0), a.1 + b.1)))
