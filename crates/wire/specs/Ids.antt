-- The layout of a connection id: its bytes at the front of an array of 20, and zeros behind them.
use Rattle.std.proofs.Common.{◌≡◌, ℕ, ◌-◌, ◌≤◌, List, ◌++◌, length, take, drop, ap, ap₂, ◌∙◌, sym, replicate, arith}
use Rattle.std.proofs.lemmas.List.{length-take-le, take-append-drop}
use Rattle.wire.specs.declared.types.ConnectionId.TheInside.{Inside}

pub record Laid (id : Inside) : Type 0 where
  pub short : id.len ≤ 20
  pub whole : length id.bytes ≡ 20
  pub blank : drop id.len id.bytes ≡ replicate (20 - id.len) 0

abbrev pub laid_out : List ℕ → Inside
laid_out bs = record { len = length bs; bytes = bs ++ replicate (20 - length bs) 0 }

abbrev made : ℕ → List ℕ → Inside
made len bytes = record { len = len; bytes = bytes }

-- nothing but the bytes is laid out
pub laid_out_again : (id : Inside) → Laid id → laid_out (take id.len id.bytes) ≡ id
laid_out_again id h =
    let within : id.len ≤ length id.bytes = omega (arith, h.short, h.whole) in
    let n : length (take id.len id.bytes) ≡ id.len = length-take-le id.len id.bytes within in
    let rest : replicate (20 - length (take id.len id.bytes)) 0 ≡ drop id.len id.bytes = ap (λ z. replicate (20 - z) 0) n ∙ sym h.blank in
    ap₂ made n (ap (λ z. take id.len id.bytes ++ z) rest ∙ take-append-drop id.len id.bytes)
