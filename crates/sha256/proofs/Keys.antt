-- The hash values after the pads stand for the key.
use Rattle.std.proofs.Common.{◌≡◌, ℕ, ◌+◌, ◌-◌, ◌≤◌, Bool, true, false, if◌then◌else◌, List, ◌++◌, length, replicate, sym, refl, ap, ◌∙◌, ap₂, arith, nat_lt}
use lib.Bits.{bit_xor}
use borrow.Rule.Slice.PartMut.{post_of}
use Rattle.std.proofs.lemmas.List.{length-append, length-map, length-replicate, drop-replicate}
use Rattle.std.proofs.lemmas.Bool.{ltb-false, le-ltb, cond-false}
use Rattle.sha256.specs.Constants.{initial}
use Rattle.sha256.specs.Block.{compressed}
use Rattle.sha256.specs.Digest.{digest, digest_from}
use Rattle.sha256.specs.Hmac.{shortened, key_block, key_pad, hmac, signed}
use Rattle.sha256.proofs.Absorbing.{digest_block, length-digest}

short : (b : Bool) (key : List ℕ) → (b ≡ false → length key ≤ 64) → length (if b then digest key else key) ≤ 64
short true key h = omega (arith, length-digest initial key (length key))
short false key h = h refl

pub length_pad : (pad : ℕ) (key : List ℕ) → length (key_pad pad key) ≡ 64
unfolding key_pad
length_pad pad key =
    let k = shortened key in
    let small : length k ≤ 64 = short (nat_lt 64 (length key)) key (ltb-false 64 (length key)) in
    length-map (key_block key) (λ b. bit_xor b pad) ∙ length-append k (replicate (64 - length k) 0) ∙ omega (arith, length-replicate {A = ℕ} (64 - length k) 0)

digest_keyed : (b m : List ℕ) → length b ≡ 64 → digest (b ++ m) ≡ digest_from (compressed initial b) (64 + length m) m
digest_keyed b m l =
    let n : length (b ++ m) ≡ 64 + length m = length-append b m ∙ omega arith in
    ap (λ (k : ℕ). digest_from initial k (b ++ m)) n ∙ digest_block b m initial (64 + length m) l

pub keyed : (key inner outer m : List ℕ) → inner ≡ compressed initial (key_pad 0x36 key) → outer ≡ compressed initial (key_pad 0x5c key)
    → signed (record { inner = inner; outer = outer }) m ≡ hmac key m
unfolding signed hmac
keyed key inner outer m p q =
    let i = key_pad 0x36 key in
    let o = key_pad 0x5c key in
    let first : digest (i ++ m) ≡ digest_from inner (64 + length m) m =
    digest_keyed i m (length_pad 0x36 key) ∙ ap (λ (v : List ℕ). digest_from v (64 + length m) m) (sym p) in
    let n : 64 + length (digest (i ++ m)) ≡ 96 = omega (arith, length-digest initial (i ++ m) (length (i ++ m))) in
    sym (
    digest_keyed o (digest (i ++ m)) (length_pad 0x5c key)
    ∙ ap₂ (λ (v : List ℕ) (k : ℕ). digest_from v k (digest (i ++ m))) (sym q) n
    ∙ ap (digest_from outer 96) first)

-- a short key at the front of a block of zeros
pub short-key : (size : ℕ) (front key : List ℕ) → size ≡ 64 → front ≡ key → length key ≤ 64 → front ++ post_of 0 (length key - 0) (replicate size 0) ≡ key_block key
short-key size front key es e h =
    let zero : length key - 0 ≡ length key = omega arith in
    let same : shortened key ≡ key = cond-false (nat_lt 64 (length key)) (digest key) key (le-ltb 64 (length key) h) in
    ap₂ ◌++◌ e (drop-replicate (length key - 0) size 0 ∙ ap₂ (λ (n k : ℕ). replicate (n - k) 0) es zero)
    ∙ ap (λ (k : List ℕ). k ++ replicate (64 - length k) 0) (sym same)
