-- What it is to seal and to open.
use Rattle.std.specs.Prelude.{◌≡◌, ℕ, ◌+◌, ◌-◌, ◌<◌, ◌≤◌, ◌⊎◌, false, not, ◌||◌, List, length, take, drop, is_ok, Some, None, Ok, Err, Option, Result, nat_lt, slice_index, if◌then◌else◌}
use Rattle.std.specs.Str.{bytes_eq}
use Rattle.answers.specs.declared.Refusal.{Refusal}
use Rattle.answers.specs.declared.Refusal.TheVariants.{SmallBuffer}
use Rattle.answers.specs.Buffers.{fronted}
use Rattle.wire.specs.Numbers.{Bytes}
use Rattle.sealing.specs.declared.TheConstants.{NONCE_LEN, MAX_CONTENT_LEN, TAG_LEN, WORKING_LEN}

-- a nonce, and a content that a scheme takes: bytes, 16 of them, and at most 64
abbrev pub IsNonce : List ℕ → Type 0
IsNonce n = Bytes n × (length n ≡ NONCE_LEN)

abbrev pub IsContent : List ℕ → Type 0
IsContent c = Bytes c × (length c ≤ MAX_CONTENT_LEN)

-- under a nonce, the bytes that stand for a content; the content that bytes stand for, if any
abbrev pub Image : Type 0
Image = List ℕ → List ℕ → List ℕ

abbrev pub Opening : Type 0
Opening = List ℕ → List ℕ → Option (List ℕ)

-- what sealing answers, by the lengths of content, working bytes and buffer
abbrev pub sealing : ℕ → ℕ → ℕ → Result ℕ Refusal
sealing len working out = if nat_lt MAX_CONTENT_LEN len || (nat_lt working WORKING_LEN || nat_lt out (len + TAG_LEN)) then Err SmallBuffer else Ok (len + TAG_LEN)

-- how many bytes a content has whose image so many bytes can be, if any is so long; or the refusal of an open
abbrev pub opening : ℕ → ℕ → Result (Option ℕ) Refusal
opening sealed working =
    if nat_lt working WORKING_LEN then Err SmallBuffer
    else if nat_lt sealed TAG_LEN || nat_lt (MAX_CONTENT_LEN + TAG_LEN) sealed then Ok None
    else Ok (Some (sealed - TAG_LEN))

-- what such a length says of the number of sealed bytes
abbrev pub IsOpenedLen : ℕ → Option ℕ → Type 0
IsOpenedLen sealed (Some len) = (sealed ≡ len + TAG_LEN) × (len ≤ MAX_CONTENT_LEN)
IsOpenedLen sealed None = (sealed < TAG_LEN) ⊎ (MAX_CONTENT_LEN + TAG_LEN < sealed)

-- a call of seal: the image of the content stands at the front of the buffer; refused, nothing was written
pub record Seals (image : List ℕ → List ℕ) (len : ℕ) (working working' out out' : List ℕ) (r : Result ℕ Refusal) : Type 0 where
  pub answer : r ≡ sealing len (length working) (length out)
  pub after : out' ≡ (if is_ok r then fronted (image (take len working)) out else out)
  pub kept : is_ok r ≡ false → working' ≡ working
  pub past : drop WORKING_LEN working' ≡ drop WORKING_LEN working

-- the content that an answer of open points at
abbrev pub content_in : List ℕ → Option ℕ → Option (List ℕ)
content_in working None = None
content_in working (Some n) = Some (take n working)

abbrev pub opened_in : List ℕ → Result (Option ℕ) Refusal → Result (Option (List ℕ)) Refusal
opened_in working (Ok o) = Ok (content_in working o)
opened_in working (Err e) = Err e

abbrev pub AtMost : ℕ → Result (Option ℕ) Refusal → Type 0
AtMost k (Ok (Some n)) = n ≤ k
AtMost k (Ok None) = Unit {0}
AtMost k (Err e) = Unit {0}

-- a call of open: what was opened stands at the front of the working bytes; refused, nothing was written
pub record Opens (opened : List ℕ → Option (List ℕ)) (sealed working working' : List ℕ) (r : Result (Option ℕ) Refusal) : Type 0 where
  pub answer : opened_in working' r ≡ (if nat_lt (length working) WORKING_LEN then Err SmallBuffer else Ok (opened sealed))
  pub within : AtMost MAX_CONTENT_LEN r
  pub kept : is_ok r ≡ false → working' ≡ working
  pub past : drop WORKING_LEN working' ≡ drop WORKING_LEN working

-- what opens under an image, by a content to try: the one whose image the bytes are
abbrev pub open_by : Image → (List ℕ → List ℕ → List ℕ) → Opening
open_by image try n b = if nat_lt MAX_CONTENT_LEN (length (try n b)) || not (bytes_eq (image n (try n b)) b) then None else Some (try n b)

-- equal in the first k bytes
abbrev pub SameTo : ℕ → List ℕ → List ℕ → Type 0
SameTo k a b = (j : ℕ) → j < k → slice_index a j ≡ slice_index b j

-- an opening that undoes an image: it gives a content exactly where the bytes are its image
pub record Undoes (image : Image) (opened : Opening) : Type 0 where
  pub opens : (n c : List ℕ) → IsNonce n → IsContent c → opened n (image n c) ≡ Some c
  pub only : (n b c : List ℕ) → IsNonce n → Bytes b → opened n b ≡ Some c → (image n c ≡ b) × IsContent c
