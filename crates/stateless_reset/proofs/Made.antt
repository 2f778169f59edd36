-- The id that a token is made of.
use Rattle.std.proofs.Common.{◌≡◌, ℕ, List, length, Ok, Err, Result, nat_lt, Bool, true, false, cond, refl, sym}
use Rattle.answers.specs.declared.Refusal.{Refusal}
use Rattle.answers.specs.declared.Refusal.TheVariants.{LongConnectionId}
use Rattle.wire.specs.Content.{id_from}
use Rattle.wire.proofs.Faithful.{apart, same_ok}

by_length : (b : Bool) (id r : List ℕ) → ◌≡◌ {A = Result (List ℕ) Refusal} (cond b (Err LongConnectionId) (Ok id)) (Ok r) → (r ≡ id) × (b ≡ false)
by_length true id r h = apart LongConnectionId r h
by_length false id r h = (sym (same_ok id r h), refl)

-- an id that is taken is the one given, and short
pub taken_id : (id r : List ℕ) → id_from id ≡ Ok r → (r ≡ id) × (nat_lt 20 (length id) ≡ false)
taken_id id r h = by_length (nat_lt 20 (length id)) id r h
