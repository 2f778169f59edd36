-- The comparison of two strings by all of their bytes.
use Rattle.std.specs.Prelude.{ℕ, List, [], ◌∷◌, fold, bit_or, bit_xor}

-- where two strings of one length differ: 0 at each byte that they have in common
abbrev pub differences : List ℕ → List ℕ → List ℕ
differences [] ys = []
differences (x ∷ xs) [] = []
differences (x ∷ xs) (y ∷ ys) = bit_xor x y ∷ differences xs ys

-- all of them joined: each bit that is set in one of them
abbrev pub joined : List ℕ → ℕ
joined ds = fold bit_or 0 ds
