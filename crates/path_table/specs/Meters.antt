-- What an open path has counted, and what each call makes of that.
use Rattle.std.specs.Prelude.{◌≡◌, ℕ, ◌+◌, ◌-◌, ◌*◌, ◌^◌, ◌≤◌, Bool, true, false, not, ◌||◌, nat_le, nat_lt, min, Ok, Err, Result, ◌==◌, if◌then◌else◌}
use Rattle.answers.specs.declared.Refusal.{Refusal}
use Rattle.answers.specs.declared.Refusal.TheVariants.{BeyondAllowance, NoPath}
use Rattle.path_table.specs.declared.meter.Meter.{Meter}
use Rattle.path_table.specs.declared.meter.TheConstants.{AMPLIFICATION_FACTOR, MAX_COUNTED_BYTES, MAX_GRANTED_BYTES, MAX_OPEN_GRANTS}

-- what holds of every open path: while it is not validated, bytes sent and those in open grants are within the allowance
pub record Sound (m : Meter) : Type 0 where
  pub limit : m.counted ≤ MAX_COUNTED_BYTES
  pub within : m.validated ≡ false → m.sent + m.owed ≤ AMPLIFICATION_FACTOR * m.counted

abbrev pub fresh : Bool → Meter
fresh v = record { validated = v; counted = 0; sent = 0; grants = 0; owed = 0 }

abbrev pub validated : Meter → Meter
validated m = record m { validated = true }

-- a validated path counts no bytes; another counts up to the most
abbrev pub received : ℕ → Meter → Meter
received n m = if m.validated then m else record m { counted = min (m.counted + n) MAX_COUNTED_BYTES }

-- whether n bytes more are within the allowance
abbrev pub allows : ℕ → Meter → Bool
allows n m = m.validated || nat_le (m.sent + m.owed + n) (AMPLIFICATION_FACTOR * m.counted)

-- a grant of n bytes more; the bytes owed are a 64-bit number, whose end only a validated path could reach
abbrev pub with_grant : ℕ → Meter → Meter
with_grant n m = record m { grants = m.grants + 1; owed = min (m.owed + n) (2 ^ 64 - 1) }

abbrev pub granted : ℕ → Meter → Result Meter Refusal
granted n m =
    if nat_lt MAX_GRANTED_BYTES n || (nat_le MAX_OPEN_GRANTS m.grants || not (allows n m)) then Err BeyondAllowance
    else Ok (with_grant n m)

-- a grant of n bytes used up as k sent, the rest returned; a validated path counts none
abbrev pub without_grant : ℕ → ℕ → Meter → Meter
without_grant n k m = record m { sent = if m.validated then m.sent else m.sent + k; grants = m.grants - 1; owed = m.owed - n }

abbrev pub spent : ℕ → ℕ → Meter → Result Meter Refusal
spent n k m =
    if m.grants == 0 || nat_lt m.owed n then Err NoPath
    else if nat_lt n k then Err BeyondAllowance
    else Ok (without_grant n k m)
