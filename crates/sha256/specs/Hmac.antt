-- HMAC (RFC 2104) with SHA-256, and one step of HKDF's expansion (RFC 5869, section 2.3).
use Rattle.std.specs.Prelude.{ℕ, ◌+◌, ◌-◌, if◌then◌else◌, List, [], ◌∷◌, ◌++◌, map, length, replicate, bit_xor, nat_lt}
use Rattle.sha256.specs.Constants.{initial}
use Rattle.sha256.specs.Block.{compressed}
use Rattle.sha256.specs.Digest.{digest, digest_from}
use Rattle.sha256.specs.declared.hmac.HmacKey.{HmacKey}

-- a key of at most 64 bytes, a longer one by its digest; with zeros up to 64 bytes
abbrev pub shortened : List ℕ → List ℕ
shortened key = if nat_lt 64 (length key) then digest key else key

abbrev pub key_block : List ℕ → List ℕ
key_block key = shortened key ++ replicate (64 - length (shortened key)) 0

-- each byte of the key block, exclusive or the pad's byte
unfoldable pub key_pad : ℕ → List ℕ → List ℕ
key_pad pad key = map (λ b. bit_xor b pad) (key_block key)

-- H(K ⊕ opad, H(K ⊕ ipad, text))
unfoldable pub hmac : List ℕ → List ℕ → List ℕ
hmac key text = digest (key_pad 0x5c key ++ digest (key_pad 0x36 key ++ text))

-- T(1) of the expansion: HMAC of the info and the byte 1
abbrev pub expand_step : List ℕ → List ℕ → List ℕ
expand_step key info = hmac key (info ++ (1 ∷ []))

-- what is kept of a key: the hash values after the two pads, and nothing else
abbrev pub kept_of : List ℕ → HmacKey
kept_of key = record { inner = compressed initial (key_pad 0x36 key); outer = compressed initial (key_pad 0x5c key) }

-- what a key of the code signs a message with: it holds the hash values after the two pads
unfoldable pub signed : HmacKey → List ℕ → List ℕ
signed key text = digest_from key.outer 96 (digest_from key.inner (64 + length text) text)
