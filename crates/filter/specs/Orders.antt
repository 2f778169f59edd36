-- The order in which a listing filter tells: that of first recording since it was last emptied.
use Rattle.std.specs.Prelude.{◌≡◌, ℕ, ◌<◌, ◌≤◌, Bool, true, false, if◌then◌else◌, List, [], ◌∷◌, ◌++◌, length, is_ok}
use Rattle.filter.specs.declared.turning.Form.TheVariants.{Listing, Over}
use Rattle.filter.specs.declared.turning.TurningFilter.{TurningFilter}
use Rattle.filter.specs.Filter.{Meaning, Answer, Fresh}
use Rattle.filter.specs.Lists.{distinct}
use Rattle.filter.specs.Successions.{Call, Leads, accepted}
use Rattle.filter.specs.Turning.{telling, Poured, Turns, Returns}

-- over a listing filter: what it means, whether it lists, and what it tells
module _ {S : Type 0} (m : S → Meaning) (lists : S → Bool) (l : S → List ℕ) where
  -- a recording: refused, nothing of the list is altered; accepted, a filter that still lists did before, and tells f behind the
  -- others; and it still does where f was sure
  pub record Appends (s : S) (f : ℕ) (r : Answer) (s' : S) : Type 0 where
    pub same : is_ok r ≡ false → (lists s' ≡ lists s) × (l s' ≡ l s)
    pub behind : is_ok r ≡ true → lists s' ≡ true → (lists s ≡ true) × (l s' ≡ l s ++ f ∷ [])
    pub sure : is_ok r ≡ true → 0 < (m s).sure → lists s' ≡ true

  -- after the calls xs: the accepted ones since the last emptying, or none where it has gone over, which it has neither while
  -- some are sure, nor as long as one that began fresh accepted at most its sure count
  pub record TellsInOrder (start : S) (xs : List Call) (s : S) : Type 0 where
    pub order : l s ≡ (if lists s then accepted xs else [])
    pub once : distinct (l s) ≡ true
    pub sure : 0 < (m s).sure → l s ≡ accepted xs
    pub all : (c : ℕ) → Fresh c (m start) → length (accepted xs) ≤ c → l s ≡ accepted xs

  -- whatever calls are made of one that told nothing, by its accounts, R of a recording and E of an emptying
  abbrev pub ListsInOrder : (S → ℕ → Answer → S → Type 0) → (S → S → Type 0) → Type 0
  ListsInOrder R E = (start s : S) (xs : List Call) → l start ≡ [] → Leads R E start xs s → TellsInOrder start xs s

-- an emptying: it lists from now on, and tells none
pub record Begins {S : Type 0} (lists : S → Bool) (l : S → List ℕ) (s : S) : Type 0 where
  pub on : lists s ≡ true
  pub none : l s ≡ []

-- over a set (what it means, what it lists, its accounts of its recording and its emptying) and another filter (its accounts)
module _ {S B : Type 0} (m : S → Meaning) (l : S → List ℕ) (R : S → ℕ → Answer → S → Type 0) (E : S → S → Type 0)
    (Q : B → ℕ → Answer → B → Type 0) (D : B → B → Type 0) where
  -- a turning filter that told nothing, and goes over at f after the calls xs: the other one, emptied, records those accepted
  -- since the last emptying, in order, and then f
  abbrev pub GoesOverInOrder : Type 0
  GoesOverInOrder =
      (start t t' : TurningFilter S B) (xs : List Call) (f : ℕ) (r : Answer) → telling l start ≡ []
      → Leads (Turns m l R Q D) (Returns E) start xs t → Turns m l R Q D t f r t' → t.form ≡ Listing → t'.form ≡ Over
      → (b : B) × D t.other b × Poured Q (accepted xs ++ f ∷ []) b t'.other
