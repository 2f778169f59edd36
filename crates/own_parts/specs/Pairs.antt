-- The log of exact pairs: what it bars, and its own account of a call.
use Rattle.std.specs.Prelude.{◌≡◌, ℕ, ◌+◌, Bool, if◌then◌else◌, ◌&&◌, ◌||◌, List, [], ◌∷◌, ◌++◌, is_ok, Ok, Err, ◌==◌, vec_items, vec_len, vec_capacity}
use Rattle.std.specs.List.{list_any}
use Rattle.answers.specs.declared.LogCause.TheVariants.{Held, Full}
use Rattle.token_log.specs.Log.{Bars, Query, Answer}
use Rattle.own_parts.specs.declared.pairs.Pair.{Pair}
use Rattle.own_parts.specs.declared.pairs.PairLog.{PairLog}

abbrev pub has_pair : ℕ → ℕ → List Pair → Bool
has_pair low issued ps = list_any (λ p. p.low == low && p.issued == issued) ps

abbrev pub is_full : PairLog → Bool
is_full s = vec_len s.pairs == vec_capacity s.pairs

-- what it bars, under every lifetime: the pairs that it has, and all when full
abbrev pub pairs_bar : PairLog → Bars
pairs_bar s lifetime low issued = has_pair low issued (vec_items s.pairs) || is_full s

abbrev pub pairs_answer : PairLog → Query → Answer
pairs_answer s x = if has_pair x.low x.issued (vec_items s.pairs) then Err Held else (if is_full s then Err Full else Ok tt)

-- a call: a pair that is accepted stands behind those it has, and else nothing is altered
pub record PairsLog (s : PairLog) (x : Query) (r : Answer) (s' : PairLog) : Type 0 where
  pub answer : r ≡ pairs_answer s x
  pub pairs : vec_items s'.pairs ≡ (if is_ok r then vec_items s.pairs ++ record { low = x.low; issued = x.issued } ∷ [] else vec_items s.pairs)
  pub len : vec_len s'.pairs ≡ (if is_ok r then vec_len s.pairs + 1 else vec_len s.pairs)
  pub places : vec_capacity s'.pairs ≡ vec_capacity s.pairs
