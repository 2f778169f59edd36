-- A table of reset tokens: how many places it has, and the tokens that it remembers, the oldest first.
use Rattle.std.specs.Prelude.{◌≡◌, ℕ, ◌-◌, ◌&&◌, Bool, nat_le, List, [], ◌∷◌, ◌++◌, map, length, drop, replicate, Ok, Err, Result, if◌then◌else◌}
use Rattle.std.specs.List.{list_any}
use Rattle.std.specs.Str.{bytes_eq}
use Rattle.answers.specs.declared.Refusal.{Refusal}
use Rattle.answers.specs.declared.Refusal.TheVariants.{ResetTableFull}
use Rattle.record_pool.specs.declared.chain.Chain.{Chain}
use Rattle.record_pool.specs.declared.pool.Pool.{Pool}
use Rattle.record_pool.specs.declared.record.Record.{Record}
use Rattle.record_pool.specs.Pools.{Blanked, items, Divided, HoldsJust}
use Rattle.stateless_reset.specs.declared.TheConstants.{RESET_TOKEN_SIZE, MIN_RESET_LEN}

pub record Table : Type 0 where
  pub places : ℕ
  pub tokens : List (List ℕ)

-- a new table with so many places
abbrev pub fresh : ℕ → Table
fresh places = record { places = places; tokens = [] }

-- whether one of these tokens has these bytes
abbrev pub has : List (List ℕ) → List ℕ → Bool
has ts bs = list_any (λ t. bytes_eq t bs) ts

-- the last bytes of a datagram, as many as a token has
abbrev pub last_of : List ℕ → List ℕ
last_of d = drop (length d - RESET_TOKEN_SIZE) d

-- whether a datagram is long enough for a reset, and ends with one of these tokens
abbrev pub is_reset : List (List ℕ) → List ℕ → Bool
is_reset ts d = nat_le MIN_RESET_LEN (length d) && has ts (last_of d)

-- a token to remember: one that is there takes no second place, another is refused where no place is left
abbrev pub remembered : List ℕ → Table → Table
remembered t s =
    if has s.tokens t then s
    else if nat_le s.places (length s.tokens) then s
    else record { places = s.places; tokens = s.tokens ++ t ∷ [] }

abbrev pub remember_answer : List ℕ → Table → Result (Unit {0}) Refusal
remember_answer t s =
    if has s.tokens t then Ok tt
    else if nat_le s.places (length s.tokens) then Err ResetTableFull
    else Ok tt

pub record Remembers (t : List ℕ) (s s' : Table) (r : Result (Unit {0}) Refusal) : Type 0 where
  pub answer : r ≡ remember_answer t s
  pub after : s' ≡ remembered t s

-- what a free record holds
abbrev pub blank : List ℕ
blank = replicate RESET_TOKEN_SIZE 0

-- a pool and a chain of it, as a table
abbrev pub table_of : Pool (List ℕ) → Chain → Table
table_of pool c = record { places = length pool.records.now; tokens = items pool c }

pub record Sound (pool : Pool (List ℕ)) (c : Chain) : Type 0 where
  pub divided : Divided pool (c ∷ [])
  pub blanked : Blanked pool
  pub blanks : pool.blank ≡ blank

-- the lent records: a place each, and each token that is remembered in one of them, and all the others blank
pub record Lent (s : Table) (records : List (Record (List ℕ))) : Type 0 where
  pub all : length records ≡ s.places
  pub hold : HoldsJust blank s.tokens (map (λ r. r.item) records)
