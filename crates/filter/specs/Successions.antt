-- Calls of a filter, and successions of them, the newest first.
use Rattle.std.specs.Prelude.{ℕ, if◌then◌else◌, List, [], ◌∷◌, ◌++◌, is_ok}
use Rattle.answers.specs.Successions.{Succession}
use Rattle.filter.specs.Filter.{Answer}

-- a call, and what a recording was answered
pub data Call : Type 0 where
  recording : ℕ → Answer → Call
  emptying : Call

-- one call, by a filter's accounts, R of a recording and E of an emptying
abbrev pub Step : {F : Type 0} → (F → ℕ → Answer → F → Type 0) → (F → F → Type 0) → F → Call → F → Type 0
Step R E s (recording f r) s' = R s f r s'
Step R E s emptying s' = E s s'

-- calls that lead from one filter to another
abbrev pub Leads : {F : Type 0} → (F → ℕ → Answer → F → Type 0) → (F → F → Type 0) → F → List Call → F → Type 0
Leads R E = Succession (Step R E)

-- the fingerprints that were accepted since the last emptying, the first one first
abbrev pub accepted : List Call → List ℕ
accepted [] = []
accepted (recording f r ∷ xs) = if is_ok r then accepted xs ++ f ∷ [] else accepted xs
accepted (emptying ∷ xs) = []
