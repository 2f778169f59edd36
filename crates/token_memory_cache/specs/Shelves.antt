-- What the records of a shelf mean: names with their tokens, the name least recently used first.
use Rattle.std.specs.Prelude.{◌≡◌, ℕ, ◌+◌, ◌*◌, ◌<◌, ◌≤◌, true, List, ◌++◌, [], ◌∷◌, map, length, slice_index_or, Option}
use Rattle.record_pool.specs.Chains.{without as cut}
use Rattle.token_store.specs.Store.{Bytes}
use Rattle.record_pool.specs.declared.chain.Chain.{Chain}
use Rattle.record_pool.specs.declared.pool.Pool.{Pool}
use Rattle.record_pool.specs.Pools.{Blanked, items, Divided}
use Rattle.token_memory_cache.specs.Cache.{Entry, Cache, others_of, tokens_of, fits, Kept, handed_out, taken}
use Rattle.token_memory_cache.specs.Lent.{blank_name, entry_at}
use Rattle.token_memory_cache.specs.declared.shelf.NameEntry.{NameEntry}
use Rattle.token_memory_cache.specs.declared.shelf.Shelf.{Shelf}

-- the names as they stand, each with its chain of tokens
abbrev pub listed : Shelf → List NameEntry
listed s = items s.names s.used

abbrev pub chains : Shelf → List Chain
chains s = map (λ e. e.tokens) (listed s)

abbrev pub entry_in : Pool Bytes → NameEntry → Entry
entry_in tokens = entry_at tokens.records.now

abbrev pub entries : Shelf → List Entry
entries s = map (entry_in s.tokens) (listed s)

-- a shelf as a cache at these limits
abbrev pub cache_of : ℕ → ℕ → Shelf → Cache
cache_of names tokens s = record { names = names; tokens = tokens; name_records = length s.names.records.now; token_records = length s.tokens.records.now; entries = entries s }

-- the records of the names are in one chain, and those of the tokens in a chain for each name, with these chains beside;
-- what is free is blank
pub record Stands (loose : List Chain) (s : Shelf) : Type 0 where
  pub names : Divided s.names (s.used ∷ [])
  pub tokens : Divided s.tokens (loose ++ chains s)
  pub blanked : Blanked s.names × Blanked s.tokens
  pub blank : (s.names.blank ≡ blank_name) × (s.tokens.blank ≡ [])

-- no record came or went
pub record SameSize (s s' : Shelf) : Type 0 where
  pub names : length s'.names.records.now ≡ length s.names.records.now
  pub tokens : length s'.tokens.records.now ≡ length s.tokens.records.now

-- name k is taken off, and c are its tokens
pub record TakenOff (k : ℕ) (s s' : Shelf) (c : Chain) : Type 0 where
  pub stands : Stands (c ∷ []) s'
  pub left : entries s' ≡ cut k (entries s)
  pub tokens : (e : Entry) → items s'.tokens c ≡ (slice_index_or (entries s) k e).tokens
  pub size : SameSize s s'

-- the entries are now es
pub record Becomes (loose : List Chain) (s s' : Shelf) (es : List Entry) : Type 0 where
  pub stands : Stands loose s'
  pub left : entries s' ≡ es
  pub size : SameSize s s'

-- a name n is to be put back behind the others, and its tokens are in the chain c
pub record Opened (names : ℕ) (n : Bytes) (s s' : Shelf) (c : Chain) : Type 0 where
  pub stands : Stands (c ∷ []) s'
  pub left : entries s' ≡ others_of names n (entries s)
  pub tokens : items s'.tokens c ≡ tokens_of n (entries s)
  pub size : SameSize s s'

-- the tokens of the loose chain are now ts
pub record Refilled (s s' : Shelf) (c : Chain) (ts : List Bytes) : Type 0 where
  pub stands : Stands (c ∷ []) s'
  pub tokens : items s'.tokens c ≡ ts
  pub left : entries s' ≡ entries s
  pub size : SameSize s s'

-- a limit of tokens a name that the entries keep to, and the chain c too, and records for one name more
pub record Room (most : ℕ) (s : Shelf) (c : Chain) : Type 0 where
  pub some : 0 < most
  pub fit : fits most (entries s) ≡ true
  pub short : length (items s.tokens c) ≤ most
  pub enough : (length (entries s) + 1) * most ≤ length s.tokens.records.now

-- a shelf that keeps to these limits, and has the records for them
pub record Sound (names tokens : ℕ) (s : Shelf) : Type 0 where
  pub stands : Stands [] s
  pub kept : Kept names tokens (entries s)
  pub name_records : names ≤ length s.names.records.now
  pub token_records : names * tokens ≤ length s.tokens.records.now

-- what a take of the name n does in the order p at these limits: r is the token that it gives
pub record Took (p : ℕ → ℕ) (names tokens : ℕ) (n : Bytes) (s s' : Shelf) (r : Option Bytes) : Type 0 where
  pub sound : Sound names tokens s'
  pub answer : r ≡ handed_out p n (entries s)
  pub left : entries s' ≡ taken p n (entries s)
  pub size : SameSize s s'
