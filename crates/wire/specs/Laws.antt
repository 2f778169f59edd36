-- The laws of contents: each has exactly one encoding, which decoding undoes.
use Rattle.std.specs.Prelude.{◌≡◌, ℕ, ◌<◌, ◌≤◌, List, length, Ok}
use Rattle.wire.specs.declared.types.IpAddr.{IpAddr}
use Rattle.wire.specs.declared.types.IpAddr.TheVariants.{V4, V6}
use Rattle.wire.specs.declared.types.SocketAddr.{SocketAddr}
use Rattle.wire.specs.declared.TheConstants.{MAX_CID_LEN, MAX_PAYLOAD_LEN}
use Rattle.wire.specs.Numbers.{Bytes}
use Rattle.wire.specs.declared.types.TokenPayload.{TokenPayload}
use Rattle.wire.specs.declared.types.TokenPayload.TheVariants.{Retry, Validation}
use Rattle.wire.specs.Content.{encode_content, decode_content}

-- what the types of the code say of an IP, an address, a connection id and a content
abbrev pub SoundIp : IpAddr → Type 0
SoundIp (V4 o) = Bytes o × (length o ≡ 4)
SoundIp (V6 o) = Bytes o × (length o ≡ 16)

abbrev pub SoundAddr : SocketAddr → Type 0
SoundAddr a = SoundIp a.ip × (a.port < 65536)

abbrev pub SoundId : List ℕ → Type 0
SoundId id = Bytes id × (length id ≤ MAX_CID_LEN)

abbrev pub Sound : TokenPayload → Type 0
Sound (Retry address id seconds) = SoundAddr address × SoundId id × (seconds < 4294967296)
Sound (Validation ip seconds) = SoundIp ip × (seconds < 4294967296)

-- decoding gives back every encoded content
abbrev pub DecodingUndoesEncoding : Type 0
DecodingUndoesEncoding = (c : TokenPayload) → Sound c → decode_content (encode_content c) ≡ Ok c

-- bytes that decode are the encoding of what they decode to
abbrev pub EachContentHasOneEncoding : Type 0
EachContentHasOneEncoding = (bs : List ℕ) (c : TokenPayload) → Bytes bs → decode_content bs ≡ Ok c → (bs ≡ encode_content c) × Sound c

-- a content has 14 to 49 bytes
abbrev pub ContentsAreShort : Type 0
ContentsAreShort = (c : TokenPayload) → Sound c → (14 ≤ length (encode_content c)) × (length (encode_content c) ≤ MAX_PAYLOAD_LEN)

-- the encoding of a content is bytes
abbrev pub ContentsAreBytes : Type 0
ContentsAreBytes = (c : TokenPayload) → Sound c → Bytes (encode_content c)
