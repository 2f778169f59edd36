-- What the lent records of a cache hold.
use Rattle.std.specs.Prelude.{◌≡◌, List, [], map, length}
use Rattle.std.specs.List.{flat_map}
use Rattle.record_pool.specs.Chains.{empty_chain}
use Rattle.record_pool.specs.Pools.{items_from, HoldsJust}
use Rattle.record_pool.specs.declared.record.Record.{Record}
use Rattle.token_store.specs.Store.{Bytes}
use Rattle.token_memory_cache.specs.Cache.{Entry, Cache}
use Rattle.token_memory_cache.specs.declared.shelf.NameEntry.{NameEntry}

-- what a record for a name is where it is free, and what that means: no name, and no tokens
abbrev pub blank_name : NameEntry
blank_name = record { name = []; tokens = empty_chain }

abbrev pub nobody : Entry
nobody = record { name = []; tokens = [] }

-- a name with the tokens that its chain leads to
abbrev pub entry_at : List (Record Bytes) → NameEntry → Entry
entry_at tokens e = record { name = e.name; tokens = items_from e.tokens.count tokens e.tokens.first }

-- all records that a cache was lent: each name that it holds is in one, and each of its tokens in one, and all the other
-- records are blank
pub record Lent (c : Cache) (names : List (Record NameEntry)) (tokens : List (Record Bytes)) : Type 0 where
  pub all_names : length names ≡ c.name_records
  pub all_tokens : length tokens ≡ c.token_records
  pub names_hold : HoldsJust nobody c.entries (map (λ r. entry_at tokens r.item) names)
  pub tokens_hold : HoldsJust [] (flat_map (λ e. e.tokens) c.entries) (map (λ r. r.item) tokens)
