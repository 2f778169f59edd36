-- A filter that begins as a listing one and goes over to another.
use Rattle.std.specs.Prelude.{◌≡◌, ℕ, ◌-◌, Bool, true, false, List, [], ◌∷◌, ◌++◌, Ok}
use Rattle.filter.specs.declared.turning.Form.{Form}
use Rattle.filter.specs.declared.turning.Form.TheVariants.{Listing, Over}
use Rattle.filter.specs.declared.turning.TurningFilter.{TurningFilter}
use Rattle.filter.specs.Filter.{Meaning, Answer}
use Rattle.filter.specs.Lists.{member}

-- what it means in each form: while it lists, what the set means, with one place kept back; gone over, what the other
-- filter refuses
abbrev pub in_form : Form → Meaning → Meaning → Meaning
in_form Listing s b = record { refuses = s.refuses; cause = s.cause; sure = s.sure - 1; count = s.count - 1 }
in_form Over s b = record { refuses = b.refuses; cause = b.cause; sure = 0; count = s.count - 1 }

abbrev pub turned : {S B : Type 0} → (S → Meaning) → (B → Meaning) → TurningFilter S B → Meaning
turned s b t = in_form t.form (s t.set) (b t.other)

-- what it tells: gone over, none
abbrev pub in_list : Form → List ℕ → List ℕ
in_list Listing xs = xs
in_list Over xs = []

abbrev pub telling : {S B : Type 0} → (S → List ℕ) → TurningFilter S B → List ℕ
telling l t = in_list t.form (l t.set)

-- whether it lists: gone over, it does not
abbrev pub in_lists : Form → Bool → Bool
in_lists Listing b = b
in_lists Over b = false

abbrev pub listing : {S B : Type 0} → (S → Bool) → TurningFilter S B → Bool
listing k t = in_lists t.form (k t.set)

-- fingerprints that were recorded one after the other, whatever was answered, by a filter with the account R of a recording
abbrev pub Poured : {B : Type 0} → (B → ℕ → Answer → B → Type 0) → List ℕ → B → B → Type 0
Poured R [] b b' = b' ≡ b
Poured {B} R (f ∷ fs) b b'' = (b' : B) × ((r : Answer) × R b f r b') × Poured R fs b' b''

-- over a set (what it means, what it lists, its account of a recording that keeps the order) and another filter (its accounts
-- of a recording and of an emptying)
module _ {S B : Type 0} (m : S → Meaning) (l : S → List ℕ) (R : S → ℕ → Answer → S → Type 0) (Q : B → ℕ → Answer → B → Type 0) (E : B → B → Type 0) where
  -- a call of record, by the form it is in: gone over, the other filter records; listing, with one sure place left and a new
  -- fingerprint, it goes over: the other filter is emptied and records each that was listed, in order, and the new one, and
  -- it accepts; otherwise the set records
  pub data Turns (t : TurningFilter S B) (f : ℕ) (r : Answer) (t' : TurningFilter S B) : Type 0 where
    over : t.form ≡ Over → t'.form ≡ Over → t'.set ≡ t.set → Q t.other f r t'.other → Turns t f r t'
    goes : t.form ≡ Listing → (m t.set).sure ≡ 1 → member f (l t.set) ≡ false → t'.form ≡ Over → t'.set ≡ t.set → r ≡ Ok tt
        → (b : B) → E t.other b → Poured Q (l t.set ++ f ∷ []) b t'.other → Turns t f r t'
    lists : t.form ≡ Listing → ((m t.set).sure ≡ 1 → member f (l t.set) ≡ true) → t'.form ≡ Listing → t'.other ≡ t.other
        → R t.set f r t'.set → Turns t f r t'

-- a call of empty: the set is emptied, by its account E of that, which keeps the order too, and it lists again
pub record Returns {S B : Type 0} (E : S → S → Type 0) (t t' : TurningFilter S B) : Type 0 where
  pub form : t'.form ≡ Listing
  pub set : E t.set t'.set
  pub other : t'.other ≡ t.other
