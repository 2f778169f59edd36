-- The length of a content, and its writing field by field.
use Rattle.std.proofs.Common.{◌≡◌, ℕ, ◌+◌, List, ◌∷◌, ◌++◌, length, sym, refl, ap, arith, length-append}
use Rattle.std.proofs.lemmas.List.{append_assoc}
use Rattle.wire.specs.declared.types.IpAddr.{IpAddr}
use Rattle.wire.specs.declared.types.SocketAddr.{SocketAddr}
use Rattle.wire.specs.Content.{encode_ip, encode_port, encode_addr, encode_id, encode_time, encode_content}
use Rattle.wire.specs.declared.types.TokenPayload.TheVariants.{Retry, Validation}

module _ (address : SocketAddr) (id : List ℕ) (seconds : ℕ) where
  pub retry_fields : encode_content (Retry address id seconds) ≡ ((0 ∷ encode_addr address) ++ encode_id id) ++ encode_time seconds
  unfolding encode_content
  retry_fields = ap (λ z. 0 ∷ z) (sym (append_assoc (encode_addr address) (encode_id id) (encode_time seconds)))

  pub retry_length : length (encode_content (Retry address id seconds)) ≡ 1 + length (encode_ip address.ip) + 2 + 1 + length id + 8
  unfolding encode_content
  retry_length =
      let e = length-append (encode_ip address.ip) (encode_port address.port) in
      let f = length-append (encode_addr address) (encode_id id ++ encode_time seconds) in
      let g = length-append (encode_id id) (encode_time seconds) in
      omega arith

module _ (ip : IpAddr) (seconds : ℕ) where
  pub validation_fields : encode_content (Validation ip seconds) ≡ (1 ∷ encode_ip ip) ++ encode_time seconds
  unfolding encode_content
  validation_fields = refl

  pub validation_length : length (encode_content (Validation ip seconds)) ≡ 1 + length (encode_ip ip) + 8
  unfolding encode_content
  validation_length = let e = length-append (encode_ip ip) (encode_time seconds) in omega arith
