-- What is to hold of a cache over whole histories, in each order of takes: which token a take hands out, which name is pushed out, and that
-- nothing else is lost or added. A history is the calls from a new cache on, refused ones too, the newest first.
use Rattle.std.specs.Prelude.{◌≡◌, ℕ, ◌<◌, Bool, true, false, ◌&&◌, ◌↔◌, List, [], ◌∷◌, length, take, is_ok, Some, None, Ok, Err, Option, Result, ◌≢◌, if◌then◌else◌}
use Rattle.std.specs.Str.{bytes_eq}
use Rattle.answers.specs.declared.Refusal.{Refusal}
use Rattle.answers.specs.Successions.{Succession, Each}
use Rattle.token_store.specs.Store.{Bytes, Holds}
use Rattle.token_store.specs.Laws.{Call}
use Rattle.token_store.specs.Laws.Call.{insertion, taking}
use Rattle.token_memory_cache.specs.Cache.{Entry, Cache, tokens_of, holding, insert_answer, inserted, take_answer, taken_into, taken_from}

-- a call, and the cache that it left
pub record Event : Type 0 where
  pub call : Call
  pub left : Cache

abbrev pub History : Type 0
History = List Event

-- one call in the order p, by what `insert` and `take` ensure
abbrev pub Does : (ℕ → ℕ) → Cache → Call → Cache → Type 0
Does p c (insertion n t r) c' = (r ≡ insert_answer n t) × (c' ≡ inserted n t c)
Does p c (taking n out out' r) c' = (r ≡ take_answer p n out c) × (out' ≡ taken_into p n out c) × (c' ≡ taken_from p n out c)

abbrev pub Step : (ℕ → ℕ) → Cache → Event → Cache → Type 0
Step p c x c' = Does p c x.call c' × (x.left ≡ c')

-- a new cache at two limits, over so many records
abbrev pub fresh : ℕ → ℕ → ℕ → ℕ → Cache
fresh names tokens name_records token_records =
    record { names = names; tokens = tokens; name_records = name_records; token_records = token_records; entries = [] }

-- P, at the limits of names and of tokens a name, of each call and the history before it, in every history of a cache with
-- takes in the order p
abbrev pub Throughout : (ℕ → ℕ) → (ℕ → ℕ → Event → History → Type 0) → Cache → Type 0
Throughout p P c =
    (names tokens name_records token_records : ℕ) (xs : History) → Succession (Step p) (fresh names tokens name_records token_records) xs c → Each (P names tokens) xs

-- what is held after a history: the names that hold tokens, each once, and their tokens
abbrev pub entries_after : History → List Entry
entries_after [] = []
entries_after (x ∷ xs) = x.left.entries

abbrev pub held : History → Holds
held xs = holding (entries_after xs)

-- when a token that is held came: the number of the call since which it has been held, the first call being number 1
abbrev pub came : Bytes → Bytes → History → ℕ
came n t [] = 0
came n t (x ∷ xs) = if held xs n t then came n t xs else length (x ∷ xs)

-- a call uses a name where it is an insert there that is not refused, of a token that is held already too, or a take there
-- that hands one out
abbrev pub hands_out : Result (Option ℕ) Refusal → Bool
hands_out (Err e) = false
hands_out (Ok None) = false
hands_out (Ok (Some k)) = true

abbrev pub uses : Bytes → Call → Bool
uses n (insertion m t r) = bytes_eq n m && is_ok r
uses n (taking m out out' r) = bytes_eq n m && hands_out r

-- when a name was last used: the number of the last call that used it, 0 where none did
abbrev pub last_use : Bytes → History → ℕ
last_use n [] = 0
last_use n (x ∷ xs) = if uses n x.call then length (x ∷ xs) else last_use n xs

-- of the tokens that are held under a name, the one that came first
pub record CameFirst (n t : Bytes) (xs : History) : Type 0 where
  pub here : held xs n t ≡ true
  pub first : (u : Bytes) → held xs n u ≡ true → u ≢ t → came n t xs < came n u xs

-- and the one that came last
pub record CameLast (n t : Bytes) (xs : History) : Type 0 where
  pub here : held xs n t ≡ true
  pub last : (u : Bytes) → held xs n u ≡ true → u ≢ t → came n u xs < came n t xs

-- of the names that tokens are held under, the one whose last use is longest ago
pub record UnusedLongest (n : Bytes) (xs : History) : Type 0 where
  pub here : (t : Bytes) × (held xs n t ≡ true)
  pub first : (m t : Bytes) → held xs m t ≡ true → m ≢ n → last_use n xs < last_use m xs

-- a take hands out a token that P says of the history before, and none only where none is held
abbrev pub HandsOut : (Bytes → Bytes → History → Type 0) → Call → History → Type 0
HandsOut P (insertion n t r) earlier = Unit {0}
HandsOut P (taking n out out' (Err e)) earlier = Unit {0}
HandsOut P (taking n out out' (Ok None)) earlier = (t : Bytes) → held earlier n t ≡ false
HandsOut P (taking n out out' (Ok (Some k))) earlier = P n (take k out') earlier

abbrev pub HandsOutTheOldest : ℕ → ℕ → Event → History → Type 0
HandsOutTheOldest names tokens x earlier = HandsOut CameFirst x.call earlier

abbrev pub HandsOutTheNewest : ℕ → ℕ → Event → History → Type 0
HandsOutTheNewest names tokens x earlier = HandsOut CameLast x.call earlier

-- a name that holds no token, where as many names do as the limit allows
pub record PastTheLimit (names : ℕ) (n : Bytes) (xs : History) : Type 0 where
  pub new : (t : Bytes) → held xs n t ≡ false
  pub full : length (entries_after xs) ≡ names

-- a name that held tokens, and holds none after the call x
pub record PushedOut (n : Bytes) (x : Event) (earlier : History) : Type 0 where
  pub was : (t : Bytes) × (held earlier n t ≡ true)
  pub none : (t : Bytes) → held (x ∷ earlier) n t ≡ false

-- an insert of a name past the limit pushes out just the name that was unused longest
abbrev pub PushesOutTheUnused : ℕ → ℕ → Event → History → Type 0
PushesOutTheUnused names tokens x earlier =
    (n t : Bytes) → x.call ≡ insertion n t (Ok tt) → PastTheLimit names n earlier → (m : Bytes) → PushedOut m x earlier ↔ UnusedLongest m earlier

-- the ways in which the token t goes from under the name n: it is handed out; it came first of a name that holds as many
-- as the limit allows, at an insert of another one there; or the name is pushed out
pub data Leaves (names tokens : ℕ) (n t : Bytes) (x : Event) (earlier : History) : Type 0 where
  handed_out : {out out' : Bytes} {k : ℕ} → x.call ≡ taking n out out' (Ok (Some k)) → take k out' ≡ t → Leaves names tokens n t x earlier
  oldest_of_full : {u : Bytes} → x.call ≡ insertion n u (Ok tt) → held earlier n u ≡ false
      → length (tokens_of n (entries_after earlier)) ≡ tokens → CameFirst n t earlier → Leaves names tokens n t x earlier
  name_pushed_out : {m u : Bytes} → x.call ≡ insertion m u (Ok tt) → PastTheLimit names m earlier → UnusedLongest n earlier → Leaves names tokens n t x earlier

-- a token that is held goes just in these ways
abbrev pub LosesOnlySo : ℕ → ℕ → Event → History → Type 0
LosesOnlySo names tokens x earlier = (n t : Bytes) → held earlier n t ≡ true → (held (x ∷ earlier) n t ≡ false) ↔ Leaves names tokens n t x earlier

-- a token comes just by an insert of it that is not refused, at limits above zero
pub record Comes (names tokens : ℕ) (n t : Bytes) (x : Event) : Type 0 where
  pub insert : x.call ≡ insertion n t (Ok tt)
  pub names_allowed : 0 < names
  pub tokens_allowed : 0 < tokens

abbrev pub AddsOnlySo : ℕ → ℕ → Event → History → Type 0
AddsOnlySo names tokens x earlier = (n t : Bytes) → held earlier n t ≡ false → (held (x ∷ earlier) n t ≡ true) ↔ Comes names tokens n t x

-- the token of such an insert is held afterwards, also where it was held before
abbrev pub HoldsWhatIsInserted : ℕ → ℕ → Event → History → Type 0
HoldsWhatIsInserted names tokens x earlier = (n t : Bytes) → Comes names tokens n t x → held (x ∷ earlier) n t ≡ true
