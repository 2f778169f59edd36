-- Loops that write one element after the other: their invariants, a turn, and the end.
use Rattle.std.proofs.Common.{◌≡◌, ℕ, ◌+◌, ◌<◌, List, ◌++◌, length, get_or, drop, set, sym, refl, ap, ◌∙◌, ap₂, arith}
use lib.Seq.{paste}
use Rattle.std.proofs.lemmas.List.Edits.{paste_more, paste_all}
use Rattle.answers.specs.Buffers.{fronted}

-- n elements, of which the first i are those of f
abbrev pub Filled : (ℕ → ℕ) → ℕ → List ℕ → ℕ → Type 0
Filled f n xs i = (length xs ≡ n) × ((k : ℕ) → k < i → get_or xs k 0 ≡ f k)

-- a loop that writes s over the front of d
pub front_more : (d d' s : List ℕ) (i v : ℕ) → d' ≡ paste d 0 s i → i < length d → i < length s → v ≡ get_or s i 0 → set d' i v ≡ paste d 0 s (i + 1)
front_more d d' s i v e h l g =
    let at : 0 + i ≡ i = omega arith in
    ap₂ (λ (x : List ℕ) (y : ℕ). set x i y) e g ∙ ap (λ (k : ℕ). set (paste d 0 s i) k (get_or s i 0)) (sym at) ∙ paste_more d 0 s i 0 (omega arith) l

pub front_all : (d s : List ℕ) → paste d 0 s (length s) ≡ fronted s d
front_all d s = let n : 0 + length s ≡ length s = omega arith in paste_all d 0 s (length s) refl ∙ ap (λ (k : ℕ). s ++ drop k d) n
