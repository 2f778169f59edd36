-- The content of a token: the bytes that say it, and what bytes say. A connection id is its bytes, an issue time is in
-- seconds.
use Rattle.std.specs.Prelude.{ℕ, ◌+◌, Bool, false, ◌&&◌, List, ◌∷◌, ◌++◌, length, drop, Ok, Err, Result, ◌==◌, nat_lt, slice_index, if◌then◌else◌}
use Rattle.std.specs.Str.{bytes_eq}
use Rattle.answers.specs.declared.Refusal.{Refusal}
use Rattle.answers.specs.declared.Refusal.TheVariants as refusal
use Rattle.answers.specs.declared.Fault.{Fault}
use Rattle.answers.specs.declared.Fault.TheVariants.{Short, TokenType, IpKind, LongConnectionId, LateIssue, ExtraBytes}
use Rattle.wire.specs.declared.types.IpAddr.{IpAddr}
use Rattle.wire.specs.declared.types.IpAddr.TheVariants.{V4, V6}
use Rattle.wire.specs.declared.types.SocketAddr.{SocketAddr}
use Rattle.wire.specs.declared.types.TokenPayload.{TokenPayload}
use Rattle.wire.specs.declared.types.TokenPayload.TheVariants.{Retry, Validation}
use Rattle.wire.specs.declared.TheConstants.{MAX_CID_LEN}
use Rattle.wire.specs.Numbers.{big_endian}
use Rattle.std.specs.Int.Digits.{number_from_digits}
use Rattle.wire.specs.Fields.{and_then, Reader, octets, both}

-- equal IPs; equal addresses
abbrev pub same_ip : IpAddr → IpAddr → Bool
same_ip (V4 o) (V4 p) = bytes_eq o p
same_ip (V4 o) (V6 p) = false
same_ip (V6 o) (V4 p) = false
same_ip (V6 o) (V6 p) = bytes_eq o p

abbrev pub same_addr : SocketAddr → SocketAddr → Bool
same_addr a b = same_ip a.ip b.ip && a.port == b.port

-- bytes as a connection id: at most 20
abbrev pub id_from : List ℕ → Result (List ℕ) Refusal
id_from bs = if nat_lt MAX_CID_LEN (length bs) then Err refusal.LongConnectionId else Ok bs

-- an IP is a byte 0 and 4 octets, or a byte 1 and 16
abbrev pub encode_ip : IpAddr → List ℕ
encode_ip (V4 o) = 0 ∷ o
encode_ip (V6 o) = 1 ∷ o

abbrev pub decode_ip : Reader IpAddr
decode_ip bs =
    if nat_lt (length bs) 1 then Err Short
    else if slice_index bs 0 == 0 then and_then (octets 4 (drop 1 bs)) (λ o. Ok (V4 o, 5))
    else if slice_index bs 0 == 1 then and_then (octets 16 (drop 1 bs)) (λ o. Ok (V6 o, 17))
    else Err (IpKind (slice_index bs 0))

-- a port is two bytes
abbrev pub encode_port : ℕ → List ℕ
encode_port port = big_endian 2 port

abbrev pub decode_port : Reader ℕ
decode_port bs = and_then (octets 2 bs) (λ o. Ok (number_from_digits 256 o, 2))

-- an address is an IP and a port
abbrev pub encode_addr : SocketAddr → List ℕ
encode_addr a = encode_ip a.ip ++ encode_port a.port

unfoldable pub decode_addr : Reader SocketAddr
decode_addr bs = and_then (both decode_ip decode_port bs) (λ p. Ok (record { ip = p.0.0; port = p.0.1 }, p.1))

-- a connection id is a length, at most 20, and so many bytes
abbrev pub encode_id : List ℕ → List ℕ
encode_id id = length id ∷ id

abbrev pub decode_id : Reader (List ℕ)
decode_id bs =
    if nat_lt (length bs) 1 then Err Short
    else if nat_lt MAX_CID_LEN (slice_index bs 0) then Err (LongConnectionId (slice_index bs 0))
    else and_then (octets (slice_index bs 0) (drop 1 bs)) (λ id. Ok (id, 1 + slice_index bs 0))

-- an issue time is eight bytes, and at most 4,294,967,295
abbrev pub encode_time : ℕ → List ℕ
encode_time seconds = big_endian 8 seconds

abbrev pub decode_time : Reader ℕ
decode_time bs =
    and_then (octets 8 bs) (λ o. if nat_lt 4294967295 (number_from_digits 256 o) then Err LateIssue else Ok (number_from_digits 256 o, 8))

-- retry content is a byte 0, an address, an original id and an issue time; validation content is a byte 1, an IP and an
-- issue time
unfoldable pub encode_content : TokenPayload → List ℕ
encode_content (Retry address id seconds) = 0 ∷ (encode_addr address ++ (encode_id id ++ encode_time seconds))
encode_content (Validation ip seconds) = 1 ∷ (encode_ip ip ++ encode_time seconds)

-- the fields are all there is
abbrev pub ended : {A : Type 0} → List ℕ → A × ℕ → Result A Fault
ended bs p = if length bs == p.1 then Ok p.0 else Err ExtraBytes

unfoldable pub decode_retry : List ℕ → Result TokenPayload Fault
decode_retry bs =
    and_then (both decode_addr (both decode_id decode_time) bs) (λ p. ended bs (Retry p.0.0 p.0.1.0 p.0.1.1, p.1))

unfoldable pub decode_validation : List ℕ → Result TokenPayload Fault
decode_validation bs = and_then (both decode_ip decode_time bs) (λ p. ended bs (Validation p.0.0 p.0.1, p.1))

abbrev pub decode_content : List ℕ → Result TokenPayload Fault
decode_content bs =
    if nat_lt (length bs) 1 then Err Short
    else if slice_index bs 0 == 0 then decode_retry (drop 1 bs)
    else if slice_index bs 0 == 1 then decode_validation (drop 1 bs)
    else Err (TokenType (slice_index bs 0))
