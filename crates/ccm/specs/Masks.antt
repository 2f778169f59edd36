-- A mask is its own inverse.
use Rattle.std.specs.Prelude.{◌≡◌, ℕ, ◌+◌, ◌-◌, ◌*◌, ◌/◌, ◌%◌, ◌<◌, min, List, ◌++◌, length, take, drop, replicate, bit_xor, slice_index, refl}
use Rattle.std.proofs.Common.{sym, ap, ap₂, ◌∙◌, zero-add, arith}
use Rattle.std.specs.Int.Bits.{xor_assoc, xor_self, xor_zero_r}
use borrow.Rule.Slice.PartMut.{post_of}
use Rattle.std.proofs.lemmas.List.{ext_get_or, drop-replicate, length-take, length-drop, take_min}
use Rattle.std.proofs.lemmas.List.FromFn.{length-map-range_with_len, get_or-map-range_with_len}
use Rattle.std.proofs.lemmas.Nat.{xor_lt}
use Rattle.std.proofs.ByRecursion.{All-get_or, All-from_get_or}
use Rattle.wire.specs.Numbers.{Bytes}
use Rattle.aes.specs.Cipher.{cipher}
use Rattle.aes.proofs.Blocks.{blocks}
use Rattle.ccm.specs.Mode.{Cipher, counter_block, part_of, content_block, xored, tag_of, stream_at, mask_at, masked}

pub length-masked : (E : Cipher) (m : List ℕ) → length (masked E m) ≡ length m
unfolding masked
length-masked E m = length-map-range_with_len (mask_at E m) 0 (length m)

pub masked-at : (E : Cipher) (m : List ℕ) (i : ℕ) → i < length m → slice_index (masked E m) i ≡ mask_at E m i
unfolding masked
masked-at E m i h = get_or-map-range_with_len (mask_at E m) 0 (length m) i i 0 h (zero-add i)

twice : (x y : ℕ) → bit_xor (bit_xor x y) y ≡ x
twice x y = xor_assoc x y y ∙ ap (bit_xor x) (xor_self y) ∙ xor_zero_r x

pub masked_twice : (E : Cipher) (m : List ℕ) → masked E (masked E m) ≡ m
masked_twice E m =
    let n = length-masked E (masked E m) ∙ length-masked E m in
    ext_get_or 0 (masked E (masked E m)) m n (λ i h.
    let l : i < length m = omega (arith, n) in
    masked-at E (masked E m) i (omega (arith, length-masked E m)) ∙ ap (λ (x : ℕ). bit_xor x (stream_at E i)) (masked-at E m i l) ∙ twice (slice_index m i) (stream_at E i))

-- under AES, bytes are masked to bytes
pub masked-bytes : (w m : List ℕ) → Bytes m → Bytes (masked (cipher w) m)
unfolding masked
masked-bytes w m h =
    All-from_get_or (λ z. z < 256) (masked (cipher w) m) 0 (λ i l.
    let n : i < length m = omega (arith, length-masked (cipher w) m) in
    let s : slice_index m i < 256 = All-get_or (λ z. z < 256) m i 0 n h in
    let b : stream_at (cipher w) i < 256 = (blocks w (counter_block (i / 16 + 1))).bytes (i % 16) in
    rw (masked-at (cipher w) m i n) (xor_lt 8 (slice_index m i) (stream_at (cipher w) i) (omega arith) (omega arith)))

pub length_tag : (E : Cipher) (m : List ℕ) → length (tag_of E m) ≡ 16
unfolding tag_of xored
length_tag E m = refl

-- a part of the content at the front of a block of zeros
pub block_laid : (size : ℕ) (content front : List ℕ) (n len : ℕ) → size ≡ 16 → front ≡ take len (drop (16 * n) content) → len ≡ min (length content - 16 * n) 16
    → front ++ post_of 0 (len - 0) (replicate size 0) ≡ content_block content n
unfolding content_block
block_laid size content front n len es ef el =
    let rest = drop (16 * n) content in
    let wide : len ≡ min 16 (length rest) = omega (arith, length-drop (16 * n) content) in
    let lp : length (part_of content n) ≡ len = length-take 16 rest ∙ sym wide in
    let same : take len rest ≡ part_of content n = ap (λ (k : ℕ). take k rest) wide ∙ take_min 16 rest in
    let zero : len - 0 ≡ length (part_of content n) = omega arith in
    ap₂ ◌++◌ (ef ∙ same) (drop-replicate (len - 0) size 0 ∙ ap₂ (λ (s k : ℕ). replicate (s - k) 0) es zero)
