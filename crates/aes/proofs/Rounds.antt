-- The rounds of the cipher, one after the other, by the keys that follow the first.
use Rattle.std.proofs.Common.{◌≡◌, ℕ, zero, suc, ◌+◌, ◌<◌, List, [], length, take, drop, get_or, refl, ap, ◌∙◌, arith, lit<}
use Rattle.std.specs.List.{fold}
use Rattle.std.specs.Simd.{first_chunks}
use Rattle.std.proofs.lemmas.List.Sums.{fold_more}
use Rattle.aes.specs.Cipher.{mix_columns, shift_rows, sub_bytes, add_round_key, round, rounds, cipher}
use Rattle.aes.proofs.Chunks.{key_alone}

-- a round by the chunk of a key
one_round : (i : ℕ) (w s : List ℕ) → i < 15 → round (get_or (first_chunks 4 15 w) i []) 0 s ≡ round w i s
unfolding round
one_round i w s h = key_alone 15 i w (mix_columns (shift_rows (sub_bytes s))) h

keys : List ℕ → List (List ℕ)
keys w = drop 1 (first_chunks 4 15 w)

next_key : (n : ℕ) (w : List ℕ) → get_or (keys w) n [] ≡ get_or (first_chunks 4 15 w) (suc n) []
unfolding keys
next_key n w = refl

length-keys : (w : List ℕ) → length (keys w) ≡ 14
unfolding keys
length-keys w = refl

folded : (n : ℕ) (w s : List ℕ) → n < 14 → fold (λ x k. round k 0 x) s (take n (keys w)) ≡ rounds w n s
unfolding rounds
folded zero w s h = refl
folded (suc n) w s h =
    let f : List ℕ → List ℕ → List ℕ = λ x k. round k 0 x in
    let l : n < length (keys w) = omega (arith, length-keys w) in
    ap (λ (m : ℕ). fold f s (take m (keys w))) (let e : suc n ≡ n + 1 = omega arith in e)
    ∙ fold_more f s (keys w) n [] l
    ∙ ap (f (fold f s (take n (keys w)))) (next_key n w)
    ∙ one_round (suc n) w (fold f s (take n (keys w))) (omega arith)
    ∙ ap (round w (suc n)) (folded n w s (omega arith))

-- the cipher by chunks cs of its keys: y is after the first key, m after the rounds that mix columns, z before the last key
pub all_rounds : (w b y m z x : List ℕ) (cs : List (List ℕ)) → cs ≡ first_chunks 4 15 w
    → y ≡ add_round_key (get_or cs 0 []) 0 b → m ≡ fold (λ x k. round k 0 x) y (take 13 (drop 1 cs)) → z ≡ shift_rows (sub_bytes m)
    → x ≡ add_round_key (get_or cs 14 []) 0 z → x ≡ cipher w b
unfolding cipher keys
all_rounds w b y m z x cs e fy fm fz fx =
    let first : y ≡ add_round_key w 0 b = fy ∙ ap (λ (c : List (List ℕ)). add_round_key (get_or c 0 []) 0 b) e ∙ key_alone 15 0 w b (lit< tt) in
    let mid : m ≡ rounds w 13 (add_round_key w 0 b) =
    fm ∙ ap (λ (c : List (List ℕ)). fold (λ x k. round k 0 x) y (take 13 (drop 1 c))) e ∙ folded 13 w y (lit< tt) ∙ ap (rounds w 13) first in
    fx ∙ ap (λ (c : List (List ℕ)). add_round_key (get_or c 14 []) 0 z) e ∙ key_alone 15 14 w z (lit< tt)
    ∙ ap (add_round_key w 14) (fz ∙ ap (λ (u : List ℕ). shift_rows (sub_bytes u)) mid)
