-- A text made of bytes is laid out.
use Rattle.std.proofs.Common.{◌≡◌, ℕ, ◌-◌, ◌≤◌, List, ◌++◌, length, drop, replicate, arith, length-append, ap, ◌∙◌, refl}
use Rattle.std.proofs.lemmas.List.{length-replicate, drop_at, drop-replicate}
use Rattle.token_memory_cache.specs.Texts.{Laid}

pub laid : (n : ℕ) (bs : List ℕ) → length bs ≤ n → Laid n (record { len = length bs; bytes = bs ++ drop (length bs) (replicate n 0) })
laid n bs h =
    let zs = drop (length bs) (replicate n 0) in
    let z : zs ≡ replicate (n - length bs) 0 = drop-replicate (length bs) n 0 in
    let l : length zs ≡ n - length bs = ap length z ∙ length-replicate (n - length bs) 0 in
    record {
      short = h;
      whole = omega (arith, length-append bs zs);
      blank = drop_at bs zs (length bs) refl ∙ z;
    }
