-- What a set means, and what its calls do to the places.
use Rattle.std.specs.Prelude.{◌≡◌, ℕ, [], ◌∷◌, ◌++◌, is_ok, if◌then◌else◌, vec_len, vec_items, vec_capacity}
use Rattle.filter.specs.declared.exact.ExactSet.{ExactSet}
use Rattle.filter.specs.declared.exact.Places.{Places}
use Rattle.filter.specs.Filter.{Meaning, Answer, reply, exact}

abbrev pub set_means : ExactSet → Meaning
set_means s = exact (vec_items s.held) s.capacity

-- all of it, and no more, is a set's
pub record HeldBy (p : Places) (s : ExactSet) : Type 0 where
  pub held : vec_capacity s.held ≡ vec_capacity p.held
  pub links : vec_capacity s.links ≡ vec_capacity p.links
  pub heads : vec_capacity s.heads ≡ vec_capacity p.heads

-- a set has as much memory as before
pub record SameMemory (s s' : ExactSet) : Type 0 where
  pub held : vec_capacity s'.held ≡ vec_capacity s.held
  pub links : vec_capacity s'.links ≡ vec_capacity s.links
  pub heads : vec_capacity s'.heads ≡ vec_capacity s.heads

-- a call of record: a fingerprint that is accepted stands behind those held, and else nothing is altered
pub record SetRecords (s : ExactSet) (f : ℕ) (r : Answer) (s' : ExactSet) : Type 0 where
  pub answer : r ≡ reply (set_means s) f
  pub held : vec_items s'.held ≡ (if is_ok r then vec_items s.held ++ f ∷ [] else vec_items s.held)
  pub capacity : s'.capacity ≡ s.capacity
  pub buckets : vec_len s'.heads ≡ vec_len s.heads
  pub memory : SameMemory s s'

-- a call of empty: none is held
pub record SetEmpties (s s' : ExactSet) : Type 0 where
  pub held : vec_items s'.held ≡ []
  pub capacity : s'.capacity ≡ s.capacity
  pub buckets : vec_len s'.heads ≡ vec_len s.heads
  pub memory : SameMemory s s'
