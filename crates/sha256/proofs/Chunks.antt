-- Bytes cut into whole chunks.
use Rattle.std.proofs.Common.{◌≡◌, ℕ, zero, suc, ◌+◌, ◌*◌, ◌<◌, List, [], take, drop, get_or, sym, refl, ap, ◌∙◌, arith, slice_index}
use Rattle.std.specs.List.{fold}
use Rattle.std.specs.Simd.{first_chunks}
use Rattle.std.proofs.lemmas.List.{drop-drop}
use Rattle.std.proofs.lemmas.Simd.{get_or-chunk}
use Rattle.sha256.specs.Block.{word_at, compressed}
use Rattle.sha256.specs.Digest.{absorbed}
use Rattle.sha256.proofs.Absorbing.{absorbed_more}

chunk_at : (n k i : ℕ) (xs : List ℕ) → i < k → get_or (first_chunks n k xs) i [] ≡ take n (drop (n * i) xs)
chunk_at n zero i xs h = absurd (omega arith)
chunk_at n (suc k) zero xs h = ap (λ (m : ℕ). take n (drop m xs)) (let e : 0 ≡ n * 0 = omega arith in e)
chunk_at n (suc k) (suc i) xs h =
    chunk_at n k i (drop n xs) (omega arith) ∙ ap (take n) (drop-drop (n * i) n xs ∙ ap (λ (m : ℕ). drop m xs) (let e : n + n * i ≡ n * suc i = omega arith in e))

byte_of_chunk : (k i j : ℕ) (xs : List ℕ) → i < k → j < 4 → slice_index (get_or (first_chunks 4 k xs) i []) j ≡ slice_index xs (4 * i + j)
byte_of_chunk k i j xs h l = ap (λ (c : List ℕ). slice_index c j) (chunk_at 4 k i xs h) ∙ get_or-chunk (4 * i) 4 xs j 0 l

-- a word of a block, from the chunk that it stands in
pub word_of_chunk : (k i : ℕ) (xs : List ℕ) (cs : List (List ℕ)) (x : ℕ) → i < k → cs ≡ first_chunks 4 k xs
    → x ≡ slice_index (get_or cs i []) 0 * 16777216 + slice_index (get_or cs i []) 1 * 65536 + slice_index (get_or cs i []) 2 * 256 + slice_index (get_or cs i []) 3
    → x ≡ word_at xs i
word_of_chunk k i xs cs x h e v =
    let b0 = byte_of_chunk k i 0 xs h (omega arith) in
    let b1 = byte_of_chunk k i 1 xs h (omega arith) in
    let b2 = byte_of_chunk k i 2 xs h (omega arith) in
    let b3 = byte_of_chunk k i 3 xs h (omega arith) in
    let z : 4 * i + 0 ≡ 4 * i = omega arith in
    v ∙ simp (e, b0, b1, b2, b3, z)

-- blocks that are absorbed in order
pub folded : (n : ℕ) (bs v : List ℕ) → fold compressed v (first_chunks 64 n bs) ≡ absorbed n bs v
unfolding absorbed
folded zero bs v = refl
folded (suc n) bs v =
    folded n (drop 64 bs) (compressed v (take 64 bs)) ∙ sym (absorbed_more n 1 bs v) ∙ ap (λ (m : ℕ). absorbed m bs v) (let e : 1 + n ≡ suc n = omega arith in e)
