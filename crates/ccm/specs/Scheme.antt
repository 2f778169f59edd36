-- CCM as a sealing scheme: each nonce has a key of its own, one step of HKDF's expansion of the secret.
use Rattle.std.specs.Prelude.{ℕ, ◌+◌, ◌-◌, if◌then◌else◌, ◌||◌, List, [], ◌∷◌, ◌++◌, length, take, drop, replicate, Some, None, Option, nat_lt}
use Rattle.answers.specs.Buffers.{fronted}
use Rattle.sealing.specs.declared.TheConstants.{MAX_CONTENT_LEN, TAG_LEN, WORKING_LEN}
use Rattle.sealing.specs.Sealing.{Image, Opening, open_by}
use Rattle.sealing.specs.Tokens.{wiped}
use Rattle.sha256.specs.declared.hmac.HmacKey.{HmacKey}
use Rattle.sha256.specs.Hmac.{signed}
use Rattle.aes.specs.Cipher.{cipher}
use Rattle.aes.specs.Keys.{key_expansion}
use Rattle.ccm.specs.Mode.{Cipher, sealed, unmasked}

-- AES-256 under a key
abbrev pub aes256 : List ℕ → Cipher
aes256 key = cipher (key_expansion key)

-- the cipher of a nonce
unfoldable pub cipher_for : HmacKey → List ℕ → Cipher
cipher_for secret nonce = aes256 (signed secret (nonce ++ (1 ∷ [])))

abbrev pub ccm_image : HmacKey → Image
ccm_image secret nonce content = sealed (cipher_for secret nonce) content

abbrev pub ccm_opened : HmacKey → Opening
ccm_opened secret = open_by (ccm_image secret) (λ nonce b. unmasked (cipher_for secret nonce) b)

-- working bytes whose last 32, the derived key, were wiped
abbrev pub keyless : List ℕ → List ℕ
keyless working = take MAX_CONTENT_LEN working ++ (replicate (WORKING_LEN - MAX_CONTENT_LEN) 0 ++ drop WORKING_LEN working)

-- the working bytes after an open that was not refused: the content in front, or all wiped; bytes too short or too long
-- to be sealed ones leave them as they were
abbrev pub left : List ℕ → List ℕ → Option (List ℕ) → List ℕ
left sealed working (Some content) = keyless (fronted content working)
left sealed working None = if nat_lt (length sealed) TAG_LEN || nat_lt (MAX_CONTENT_LEN + TAG_LEN) (length sealed) then working else wiped working
