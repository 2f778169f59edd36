-- Blocks that are absorbed one after the other.
use Rattle.std.proofs.Common.{◌≡◌, ℕ, zero, suc, ◌+◌, ◌-◌, ◌*◌, ◌/◌, ◌%◌, ◌^◌, ◌≤◌, List, ◌∷◌, ◌++◌, length, take, drop, replicate, sym, refl, ap, ◌∙◌, ap₂, arith}
use Rattle.std.proofs.lemmas.List.{length-append, length-drop, take-append-le, drop-append-le, drop-drop, take_at, drop_at}
use Rattle.sha256.specs.Block.{compressed}
use Rattle.sha256.specs.Digest.{block_of, absorbed, bytes_of, padding, eight_bytes, digest_from}

block_front : (m x : List ℕ) (n : ℕ) → 64 * n + 64 ≤ length m → block_of (m ++ x) n ≡ block_of m n
block_front m x n h =
    ap (take 64) (drop-append-le (64 * n) m x (omega arith)) ∙ take-append-le 64 (drop (64 * n) m) x (omega (arith, length-drop (64 * n) m))

-- whole blocks of m do not look at what follows m
absorbed_front : (n : ℕ) (m x v : List ℕ) → 64 * n ≤ length m → absorbed n (m ++ x) v ≡ absorbed n m v
unfolding absorbed
absorbed_front zero m x v h = refl
absorbed_front (suc n) m x v h = ap₂ compressed (absorbed_front n m x v (omega arith)) (block_front m x n (omega arith))

-- first q blocks, then k blocks of what is left
pub absorbed_more : (k q : ℕ) (bs v : List ℕ) → absorbed (q + k) bs v ≡ absorbed k (drop (64 * q) bs) (absorbed q bs v)
unfolding absorbed
absorbed_more zero q bs v = ap (λ (z : ℕ). absorbed z bs v) (let e : q + 0 ≡ q = omega arith in e)
absorbed_more (suc k) q bs v =
    let e : q + suc k ≡ suc (q + k) = omega arith in
    let d : 64 * (q + k) ≡ 64 * q + 64 * k = omega arith in
    ap (λ (z : ℕ). absorbed z bs v) e
    ∙ ap₂ compressed (absorbed_more k q bs v) (ap (λ (z : ℕ). take 64 (drop z bs)) d ∙ ap (take 64) (sym (drop-drop (64 * k) (64 * q) bs)))

-- a digest is worked out by absorbing whole blocks first
pub digest-absorbed : (q n : ℕ) (v m : List ℕ) → 64 * q ≤ length m → digest_from v n m ≡ digest_from (absorbed q m v) n (drop (64 * q) m)
unfolding digest_from
digest-absorbed q n v m h =
    let p = padding n in
    let bs = m ++ p in
    let rest = drop (64 * q) m ++ p in
    let l : length rest ≡ length bs - 64 * q = length-append (drop (64 * q) m) p ∙ omega (arith, length-drop (64 * q) m, length-append m p) in
    let k : length bs / 64 ≡ q + length rest / 64 = omega (arith, length-append m p) in
    ap bytes_of (
    ap (λ (z : ℕ). absorbed z bs v) k ∙ absorbed_more (length rest / 64) q bs v
    ∙ ap₂ (absorbed (length rest / 64)) (drop-append-le (64 * q) m p h) (absorbed_front q m p v h))

-- one whole block b first
pub digest_block : (b m v : List ℕ) (n : ℕ) → length b ≡ 64 → digest_from v n (b ++ m) ≡ digest_from (compressed v b) n m
unfolding absorbed
digest_block b m v n l =
    digest-absorbed 1 n v (b ++ m) (omega (arith, length-append b m))
    ∙ ap₂ (λ (x rest : List ℕ). digest_from (compressed v x) n rest) (take_at b m 64 l) (drop_at b m 64 l)

-- the padding looks at the length modulo 2 ^ 64
pub padding_wrapped : (n : ℕ) → padding (n % 2 ^ 64) ≡ padding n
unfolding padding
padding_wrapped n =
    let z : n % 2 ^ 64 % 64 ≡ n % 64 = omega arith in
    let b : n % 2 ^ 64 * 8 % 2 ^ 64 ≡ n * 8 % 2 ^ 64 = omega arith in
    ap₂ (λ (x y : ℕ). 0x80 ∷ (replicate ((119 - x) % 64) 0 ++ eight_bytes y)) z b

pub digest_wrapped : (v m : List ℕ) (n : ℕ) → digest_from v (n % 2 ^ 64) m ≡ digest_from v n m
unfolding digest_from
digest_wrapped v m n = ap (λ (p : List ℕ). bytes_of (absorbed (length (m ++ p) / 64) (m ++ p) v)) (padding_wrapped n)

pub length-digest : (v m : List ℕ) (n : ℕ) → length (digest_from v n m) ≡ 32
unfolding digest_from bytes_of
length-digest v m n = refl

-- whole blocks first, also where something follows them
pub digest_front : (q n : ℕ) (v m x : List ℕ) → 64 * q ≤ length m → digest_from v n (m ++ x) ≡ digest_from (absorbed q m v) n (drop (64 * q) m ++ x)
digest_front q n v m x h =
    digest-absorbed q n v (m ++ x) (omega (arith, length-append m x))
    ∙ ap₂ (λ (u rest : List ℕ). digest_from u n rest) (absorbed_front q m x v h) (drop-append-le (64 * q) m x h)
