-- The memory cache, on lists: names with their tokens. The name least recently used stands first, and of each name's
-- tokens the oldest.
use Rattle.std.specs.Prelude.{◌≡◌, ℕ, ◌*◌, ◌^◌, ◌≤◌, Bool, true, false, not, ◌&&◌, ◌||◌, nat_le, nat_lt, List, [], ◌∷◌, ◌++◌, length, drop, Some, None, Ok, Err, Option, Result, ◌==◌, if◌then◌else◌}
use Rattle.std.specs.List.{list_all, list_any}
use Rattle.std.specs.Option.{option_map}
use Rattle.std.specs.Str.{bytes_eq}
use Rattle.answers.specs.declared.Refusal.{Refusal}
use Rattle.answers.specs.declared.Refusal.TheVariants.{SmallBuffer, LongEntry}
use Rattle.answers.specs.Buffers.{fronted}
use Rattle.record_pool.specs.Chains.{without as cut}
use Rattle.record_pool.specs.Pools.{nth}
use Rattle.token_store.specs.declared.TheConstants.{MAX_NAME_LEN, MAX_STORED_LEN}
use Rattle.token_memory_cache.specs.declared.cache.TheConstants.{MAX_SERVER_NAMES, MAX_TOKENS_PER_SERVER}
use Rattle.token_store.specs.Store.{Bytes, Holds}

pub record Entry : Type 0 where
  pub name : Bytes
  pub tokens : List Bytes

abbrev pub has : Bytes → List Bytes → Bool
has t = list_any (bytes_eq t)

abbrev pub named : Bytes → List Entry → Bool
named n = list_any (λ e. bytes_eq n e.name)

-- the tokens of a name, none where it is not there; the other names
abbrev pub tokens_of : Bytes → List Entry → List Bytes
tokens_of n [] = []
tokens_of n (e ∷ es) = if bytes_eq n e.name then e.tokens else tokens_of n es

abbrev pub without : Bytes → List Entry → List Entry
without n [] = []
without n (e ∷ es) = if bytes_eq n e.name then without n es else e ∷ without n es

-- what the cache holds
abbrev pub holding : List Entry → Holds
holding es n t = has t (tokens_of n es)

-- a token stored to a name of at most k: a duplicate is discarded, and a full name drops its oldest
abbrev pub added : ℕ → Bytes → List Bytes → List Bytes
added k t ts = if has t ts then ts else (if nat_le k (length ts) then drop 1 ts else ts) ++ t ∷ []

-- the entries without a name, or, where it is new and they are as many as the limit of names, without the one least
-- recently used
abbrev pub others_of : ℕ → Bytes → List Entry → List Entry
others_of names n es = if named n es then without n es else if nat_le names (length es) then drop 1 es else es

-- an insert, at limits of names and of tokens a name: the name is then used last; a new name past the limit pushes out
-- the one least recently used; either limit zero, nothing happens
abbrev pub stored : ℕ → ℕ → Bytes → Bytes → List Entry → List Entry
stored names tokens n t es =
    if names == 0 || tokens == 0 then es
    else if named n es then without n es ++ record { name = n; tokens = added tokens t (tokens_of n es) } ∷ []
    else (if nat_le names (length es) then drop 1 es else es) ++ record { name = n; tokens = t ∷ [] } ∷ []

-- what a take hands out of a name's tokens in the order p, and what it leaves of them
abbrev pub given : (ℕ → ℕ) → List Bytes → Option Bytes
given p ts = nth ts (p (length ts))

abbrev pub left : (ℕ → ℕ) → List Bytes → List Bytes
left p ts = cut (p (length ts)) ts

-- a name of which a take leaves these tokens is then used last, or removed where there are none
abbrev pub leave : Bytes → List Entry → List Bytes → List Entry
leave n es [] = without n es
leave n es (u ∷ us) = without n es ++ record { name = n; tokens = u ∷ us } ∷ []

abbrev pub rest : (ℕ → ℕ) → Bytes → List Entry → List Bytes → List Entry
rest p n es [] = es
rest p n es (t ∷ ts) = leave n es (left p (t ∷ ts))

abbrev pub handed_out : (ℕ → ℕ) → Bytes → List Entry → Option Bytes
handed_out p n es = given p (tokens_of n es)

abbrev pub taken : (ℕ → ℕ) → Bytes → List Entry → List Entry
taken p n es = rest p n es (tokens_of n es)

-- names apart, and under each name tokens that are apart, at least one
abbrev pub apart : List Bytes → Bool
apart [] = true
apart (t ∷ ts) = not (has t ts) && apart ts

abbrev pub some : List Bytes → Bool
some [] = false
some (t ∷ ts) = true

abbrev pub sound : List Entry → Bool
sound [] = true
sound (e ∷ es) = (not (named e.name es) && (apart e.tokens && some e.tokens)) && sound es

-- within the limit of tokens; names and tokens that are not too long
abbrev pub fits : ℕ → List Entry → Bool
fits tokens = list_all (λ e. nat_le (length e.tokens) tokens)

abbrev pub shorts : List Bytes → Bool
shorts = list_all (λ t. nat_le (length t) MAX_STORED_LEN)

abbrev pub short : List Entry → Bool
short = list_all (λ e. nat_le (length e.name) MAX_NAME_LEN && shorts e.tokens)

-- what a cache keeps to at its limits
abbrev pub Kept : ℕ → ℕ → List Entry → Type 0
Kept names tokens es = (sound es ≡ true) × (short es ≡ true) × (length es ≤ names) × (fits tokens es ≡ true)

-- a cache: how many names and how many tokens a name it may hold, how many records it was lent for names and for tokens, and
-- what it holds
pub record Cache : Type 0 where
  pub names : ℕ
  pub tokens : ℕ
  pub name_records : ℕ
  pub token_records : ℕ
  pub entries : List Entry

-- whether a cache may be made with these limits, in so many records for names and for tokens
abbrev pub allowed : ℕ → ℕ → ℕ → ℕ → Bool
allowed names tokens name_records token_records =
    (nat_le names MAX_SERVER_NAMES && nat_le tokens MAX_TOKENS_PER_SERVER) && (nat_le names name_records && nat_le (names * tokens) token_records)
    && (nat_lt name_records (2 ^ 32) && nat_lt token_records (2 ^ 32))

-- an insert: its answer, and what it leaves
abbrev pub long_entry : Bytes → Bytes → Bool
long_entry n t = nat_lt MAX_NAME_LEN (length n) || nat_lt MAX_STORED_LEN (length t)

abbrev pub insert_answer : Bytes → Bytes → Result (Unit {0}) Refusal
insert_answer n t = if long_entry n t then Err LongEntry else Ok tt

abbrev pub inserted : Bytes → Bytes → Cache → Cache
inserted n t c = if long_entry n t then c else record c { entries = stored c.names c.tokens n t c.entries }

-- a take in the order p: its answer, what it leaves, and the buffer
abbrev pub take_answer : (ℕ → ℕ) → Bytes → List ℕ → Cache → Result (Option ℕ) Refusal
take_answer p n out c = if nat_lt (length out) MAX_STORED_LEN then Err SmallBuffer else if nat_lt MAX_NAME_LEN (length n) then Err LongEntry else Ok (option_map length (handed_out p n c.entries))

abbrev pub put_in_front : Option Bytes → List ℕ → List ℕ
put_in_front None out = out
put_in_front (Some t) out = fronted t out

abbrev pub taken_into : (ℕ → ℕ) → Bytes → List ℕ → Cache → List ℕ
taken_into p n out c = if nat_lt (length out) MAX_STORED_LEN || nat_lt MAX_NAME_LEN (length n) then out else put_in_front (handed_out p n c.entries) out

abbrev pub taken_from : (ℕ → ℕ) → Bytes → List ℕ → Cache → Cache
taken_from p n out c = if nat_lt (length out) MAX_STORED_LEN || nat_lt MAX_NAME_LEN (length n) then c else record c { entries = taken p n c.entries }
