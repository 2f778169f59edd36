-- Chains in a list of links. A record has a place, counted from 1; the link at a place is the place of the record that
-- follows, and 0 ends a chain. The list has a link 0 at place 0, which no record has.
use Rattle.std.specs.Prelude.{◌≡◌, ℕ, zero, suc, ◌+◌, ◌<◌, ◌≤◌, if◌then◌else◌, List, [], ◌∷◌, ◌++◌, map, length, take, drop, ◌==◌, slice_index}
use Rattle.std.specs.List.{flat_map}
use Rattle.record_pool.specs.declared.chain.Chain.{Chain}

-- the k places from s on
abbrev pub walk : ℕ → List ℕ → ℕ → List ℕ
walk zero nx s = []
walk (suc k) nx s = s ∷ walk k nx (slice_index nx s)

-- where k links lead from s
abbrev pub follow : ℕ → List ℕ → ℕ → ℕ
follow zero nx s = s
follow (suc k) nx s = follow k nx (slice_index nx s)

-- the places of a chain, in order
abbrev pub along : List ℕ → Chain → List ℕ
along nx c = walk c.count nx c.first

-- the places of n records, from the last to the first
abbrev pub down : ℕ → List ℕ
down zero = []
down (suc n) = suc n ∷ down n

abbrev pub empty_chain : Chain
empty_chain = record { first = 0; count = 0 }

-- 1 where a place is p, else 0
unfoldable pub hit : ℕ → ℕ → ℕ
hit p x = if x == p then 1 else 0

-- how often p stands among places
abbrev pub times : ℕ → List ℕ → ℕ
times p [] = 0
times p (x ∷ xs) = hit p x + times p xs

-- each chain ends in 0: the link of its last place is 0, and the first of an empty one is
abbrev pub Ended : List ℕ → List Chain → Type 0
Ended nx [] = Unit {0}
Ended nx (c ∷ cs) = (follow c.count nx c.first ≡ 0) × Ended nx cs

-- the chains share out the places 1 to n
pub record Shared (n : ℕ) (nx : List ℕ) (cs : List Chain) : Type 0 where
  -- each is met exactly once going along all the chains
  pub once : (p : ℕ) → 0 < p → p ≤ n → times p (flat_map (along nx) cs) ≡ 1
  -- no other place is met
  pub only : (p : ℕ) → 0 < times p (flat_map (along nx) cs) → (0 < p) × (p ≤ n)
  -- so the chains are as long as there are places
  pub full : length (flat_map (along nx) cs) ≡ n
  pub ended : Ended nx cs

-- a list without its element k, counted from 0
abbrev pub without : {X : Type 0} → ℕ → List X → List X
without k xs = take k xs ++ drop (k + 1) xs

-- place k of the chain c has become a chain by itself, and the other chains are as they were
pub record Detached (n : ℕ) (nx nx' : List ℕ) (c : Chain) (k : ℕ) (rest one : Chain) (others : List Chain) : Type 0 where
  pub shared : Shared n nx' (rest ∷ one ∷ others)
  pub rests : along nx' rest ≡ without k (along nx c)
  pub ones : along nx' one ≡ slice_index (along nx c) k ∷ []
  pub kept : map (along nx') others ≡ map (along nx) others

-- the chains a and b have become one, and the other chains are as they were
pub record Joined (n : ℕ) (nx nx' : List ℕ) (a b both : Chain) (others : List Chain) : Type 0 where
  pub shared : Shared n nx' (both ∷ others)
  pub boths : along nx' both ≡ along nx a ++ along nx b
  pub kept : map (along nx') others ≡ map (along nx) others
