-- What clients of a gate promise.
use Rattle.std.specs.Prelude.{◌≡◌, ℕ, ◌<◌, Bool, true, false, List, length, get_or, vec_items}
use Rattle.gate.specs.Successions.{Call}
use Rattle.gate.specs.Successions.Call.{issuing, arriving}
use Rattle.answers.specs.Successions.{Exists}
use Rattle.gate.specs.Laws.{honours}
use Rattle.own_parts.specs.declared.clients.Guest.{Guest}

-- an arrival with this token: whether it was honoured
abbrev pub Answers : List ℕ → Bool → Call → Type 0
Answers token told (issuing x r) = ⊥
Answers token told (arriving x r) = (x.token ≡ token) × (honours r ≡ told)

-- an arrival with this token, which was honoured
abbrev pub Honoured : List ℕ → Call → Type 0
Honoured token x = Answers token true x

-- of an arrival with this token, after those earlier: it is told as honoured just if it was, and then none of these had been
pub record Told (token : List ℕ) (told : Bool) (x : Call) (earlier : List Call) : Type 0 where
  pub answers : Answers token told x
  pub first : told ≡ true → Exists (Honoured token) earlier → ⊥

-- no two guests with one token are noted as honoured
abbrev pub NoneTwice : List Guest → List Bool → Type 0
NoneTwice guests notes =
    (d : Guest) (i j : ℕ) → i < j → j < length guests → j < length notes → get_or notes i false ≡ true → get_or notes j false ≡ true
    → vec_items (get_or guests i d).token ≡ vec_items (get_or guests j d).token → ⊥
