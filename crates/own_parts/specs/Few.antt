-- The filter that is a plain list: what it means, and its accounts of its calls.
use Rattle.std.specs.Prelude.{◌≡◌, ℕ, [], ◌∷◌, ◌++◌, is_ok, if◌then◌else◌, vec_items, vec_capacity}
use Rattle.filter.specs.Filter.{Meaning, Answer, reply, exact}
use Rattle.own_parts.specs.declared.few.Few.{Few}

-- a set of as many places as there is capacity
abbrev pub few_means : Few → Meaning
few_means s = exact (vec_items s.held) (vec_capacity s.held)

-- a call of record: a fingerprint that is accepted stands behind those held, and else nothing is altered
pub record FewRecords (s : Few) (f : ℕ) (r : Answer) (s' : Few) : Type 0 where
  pub answer : r ≡ reply (few_means s) f
  pub held : vec_items s'.held ≡ (if is_ok r then vec_items s.held ++ f ∷ [] else vec_items s.held)
  pub places : vec_capacity s'.held ≡ vec_capacity s.held

-- a call of empty: none is held
pub record FewEmpties (s s' : Few) : Type 0 where
  pub held : vec_items s'.held ≡ []
  pub places : vec_capacity s'.held ≡ vec_capacity s.held
