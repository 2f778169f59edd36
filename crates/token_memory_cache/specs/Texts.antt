-- The layout of a text: its bytes at the front of an array, and zeros behind them.
use Rattle.std.proofs.Common.{◌≡◌, ℕ, ◌-◌, ◌≤◌, List, ◌++◌, length, take, drop, ap, ap₂, ◌∙◌, sym, replicate, arith}
use Rattle.std.proofs.lemmas.List.{length-take-le, take-append-drop}
use Rattle.token_memory_cache.specs.declared.text.Text.TheInside.{Inside}

pub record Laid (n : ℕ) (t : Inside n) : Type 0 where
  pub short : t.len ≤ n
  pub whole : length t.bytes ≡ n
  pub blank : drop t.len t.bytes ≡ replicate (n - t.len) 0

abbrev pub laid_out : (n : ℕ) → List ℕ → Inside n
laid_out n bs = record { len = length bs; bytes = bs ++ replicate (n - length bs) 0 }

abbrev made : (n len : ℕ) → List ℕ → Inside n
made n len bytes = record { len = len; bytes = bytes }

-- nothing but the bytes is laid out
pub laid_out_again : (n : ℕ) (t : Inside n) → Laid n t → laid_out n (take t.len t.bytes) ≡ t
laid_out_again n t h =
    let within : t.len ≤ length t.bytes = omega (arith, h.short, h.whole) in
    let l : length (take t.len t.bytes) ≡ t.len = length-take-le t.len t.bytes within in
    let rest : replicate (n - length (take t.len t.bytes)) 0 ≡ drop t.len t.bytes = ap (λ z. replicate (n - z) 0) l ∙ sym h.blank in
    ap₂ (made n) l (ap (λ z. take t.len t.bytes ++ z) rest ∙ take-append-drop t.len t.bytes)
