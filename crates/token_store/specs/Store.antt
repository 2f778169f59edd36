-- What a client's store of tokens means, and what one call does to that.
use Rattle.std.specs.Prelude.{◌≡◌, ℕ, ◌<◌, ◌≤◌, Bool, true, false, ◌⊎◌, List, length, Some, None, Ok, Err, Option, Result, ◌≢◌}
use Rattle.answers.specs.declared.Refusal.{Refusal}
use Rattle.answers.specs.declared.Refusal.TheVariants.{SmallBuffer, LongEntry}
use Rattle.answers.specs.Buffers.{fronted}
use Rattle.token_store.specs.declared.TheConstants.{MAX_NAME_LEN, MAX_STORED_LEN}

-- the bytes of a name or of a token
abbrev pub Bytes : Type 0
Bytes = List ℕ

-- for each name, which tokens are held
abbrev pub Holds : Type 0
Holds = Bytes → Bytes → Bool

abbrev pub Alike : Holds → Holds → Type 0
Alike h h' = (n t : Bytes) → h' n t ≡ h n t

-- what is held after was held before, or is the given token under its name
abbrev pub Inserted : Bytes → Bytes → Holds → Holds → Type 0
Inserted n t h h' = (m u : Bytes) → h' m u ≡ true → (h m u ≡ true) ⊎ ((m ≡ n) × (u ≡ t))

-- one insert: a name or a token that is too long is refused, and alters nothing
pub data Stores (n t : Bytes) (h h' : Holds) : Result (Unit {0}) Refusal → Type 0 where
  long_entry : (MAX_NAME_LEN < length n) ⊎ (MAX_STORED_LEN < length t) → Alike h h' → Stores n t h h' (Err LongEntry)
  inserts : length n ≤ MAX_NAME_LEN → length t ≤ MAX_STORED_LEN → Inserted n t h h' → Stores n t h h' (Ok tt)

-- the token t was held under n, is held there no more, and all else is as before
pub record Handed (n t : Bytes) (h h' : Holds) : Type 0 where
  pub held : h n t ≡ true
  pub gone : h' n t ≡ false
  pub others : (m u : Bytes) → (m ≡ n → u ≢ t) → h' m u ≡ h m u

-- one take into a buffer: one too small for the longest token, then a name that is too long, is refused; only a token that is
-- handed out is written
pub data Takes (n out out' : Bytes) (h h' : Holds) : Result (Option ℕ) Refusal → Type 0 where
  small : length out < MAX_STORED_LEN → out' ≡ out → Alike h h' → Takes n out out' h h' (Err SmallBuffer)
  long_name : MAX_STORED_LEN ≤ length out → MAX_NAME_LEN < length n → out' ≡ out → Alike h h' → Takes n out out' h h' (Err LongEntry)
  none : MAX_STORED_LEN ≤ length out → length n ≤ MAX_NAME_LEN → out' ≡ out → Alike h h' → Takes n out out' h h' (Ok None)
  some : MAX_STORED_LEN ≤ length out → length n ≤ MAX_NAME_LEN → (t : Bytes) → length t ≤ MAX_STORED_LEN → out' ≡ fronted t out → Handed n t h h' → Takes n out out' h h' (Ok (Some (length t)))
