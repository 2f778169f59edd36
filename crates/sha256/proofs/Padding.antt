-- The last blocks of a message as they are laid out in a buffer of zeros.
use Rattle.std.proofs.Common.{◌≡◌, ℕ, ◌+◌, ◌-◌, ◌*◌, ◌/◌, ◌%◌, ◌^◌, ◌<◌, ◌≤◌, List, ◌∷◌, ◌++◌, length, take, drop, set, replicate, sym, refl, ap, ◌∙◌, ap₂, arith}
use borrow.Rule.Slice.PartMut.{put_mid, post_of}
use Rattle.std.proofs.lemmas.List.{append_assoc, length-append, length-replicate, drop-replicate, replicate-append-replicate, set_at, take_at}
use Rattle.std.proofs.lemmas.Slice.{take-put_mid}
use Rattle.sha256.specs.Digest.{padding, eight_bytes}

-- the tail, the one bit, and zeros
pub marked : (one size : ℕ) (tail : List ℕ) → length tail < size → set (tail ++ drop (length tail) (replicate size 0)) (length tail) one ≡ tail ++ (one ∷ replicate (size - length tail - 1) 0)
marked one size tail h =
    let n = length tail in
    let k : size - n ≡ 1 + (size - n - 1) = omega arith in
    ap (λ (z : List ℕ). set (tail ++ z) n one) (drop-replicate n size 0 ∙ ap (λ (j : ℕ). replicate j 0) k ∙ sym (replicate-append-replicate 1 (size - n - 1) 0))
    ∙ set_at tail 0 (replicate (size - n - 1) 0) one n refl

-- the front of that
pub marked_front : (one : ℕ) (tail : List ℕ) (z more : ℕ) → z ≤ more → take (length tail + 1 + z) (tail ++ (one ∷ replicate more 0)) ≡ tail ++ (one ∷ replicate z 0)
marked_front one tail z more h =
    let front = tail ++ (one ∷ replicate z 0) in
    let k : more ≡ z + (more - z) = omega arith in
    let l : length front ≡ length tail + 1 + z = length-append tail (one ∷ replicate z 0) ∙ omega (arith, length-replicate {A = ℕ} z 0) in
    ap (λ (j : ℕ). take (length tail + 1 + z) (tail ++ (one ∷ replicate j 0))) k
    ∙ ap (λ (r : List ℕ). take (length tail + 1 + z) (tail ++ (one ∷ r))) (sym (replicate-append-replicate z (more - z) 0))
    ∙ ap (take (length tail + 1 + z)) (sym (append_assoc tail (one ∷ replicate z 0) (replicate (more - z) 0)))
    ∙ take_at front (replicate (more - z) 0) (length tail + 1 + z) l

pub laid : (size : ℕ) (buffer tail front bits : List ℕ) (total end k : ℕ)
    → size ≡ 128 → buffer ≡ replicate size 0 → length tail ≤ 64 → length tail % 64 ≡ total % 64 → end ≡ (length tail + 8) / 64 * 64 + 64
    → front ≡ tail → bits ≡ eight_bytes (total * 8 % 2 ^ 64)
    → take end (put_mid (end - 8) k (set (front ++ post_of 0 (length tail - 0) buffer) (length tail) 0x80) bits) ≡ tail ++ padding total
unfolding padding
laid size buffer tail front bits total end k es eb h m ee ef et =
    let n = length tail in
    let z = (119 - total % 64) % 64 in
    let at : end - 8 ≡ n + 1 + z = omega arith in
    let more = size - n - 1 in
    let room : z ≤ more = omega arith in
    let zero : n - 0 ≡ n = omega arith in
    let was : set (front ++ post_of 0 (n - 0) buffer) n 0x80 ≡ tail ++ (0x80 ∷ replicate more 0) =
    ap₂ (λ (x y : List ℕ). set (x ++ y) n 0x80) ef (ap (drop (n - 0)) eb ∙ ap (λ (j : ℕ). drop j (replicate size 0)) zero) ∙ marked 0x80 size tail (omega arith) in
    let long : length (tail ++ (0x80 ∷ replicate more 0)) ≡ size = length-append tail (0x80 ∷ replicate more 0) ∙ omega (arith, length-replicate {A = ℕ} more 0) in
    let eight : length bits ≡ 8 = ap length et in
    ap (λ (x : List ℕ). take end (put_mid (end - 8) k x bits)) was
    ∙ take-put_mid (end - 8) k (tail ++ (0x80 ∷ replicate more 0)) bits end (omega arith) (omega arith)
    ∙ ap₂ ◌++◌ (ap (λ (j : ℕ). take j (tail ++ (0x80 ∷ replicate more 0))) at ∙ marked_front 0x80 tail z more room) et
    ∙ append_assoc tail (0x80 ∷ replicate z 0) (eight_bytes (total * 8 % 2 ^ 64))
