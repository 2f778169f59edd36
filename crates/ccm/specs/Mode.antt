-- AEAD_AES_256_CCM of RFC 5116 (CCM of RFC 3610 and SP 800-38C with a tag of 16 bytes and a length of 3 bytes), with a
-- nonce of 12 zero bytes and no associated data. A cipher is a map from blocks of 16 bytes to such blocks.
use Rattle.std.specs.Prelude.{ℕ, zero, suc, ◌+◌, ◌-◌, ◌*◌, ◌/◌, ◌%◌, List, [], ◌∷◌, ◌++◌, map, length, take, drop, replicate, bit_xor, slice_index}
use Rattle.std.specs.List.{range_with_len}

abbrev pub Cipher : Type 0
Cipher = List ℕ → List ℕ

-- a byte of flags, the nonce, and a number in three bytes
abbrev pub headed : ℕ → ℕ → List ℕ
headed flags n = flags ∷ (replicate 12 0 ++ (n / 65536 % 256 ∷ n / 256 % 256 ∷ n % 256 ∷ []))

-- the first block of the chain: its flags tell the widths of tag and length
abbrev pub first_block : ℕ → List ℕ
first_block len = headed (8 * ((16 - 2) / 2) + (3 - 1)) len

-- the i-th counter block
abbrev pub counter_block : ℕ → List ℕ
counter_block i = headed (3 - 1) i

-- block n of a content, with zeros up to 16 bytes
abbrev pub part_of : List ℕ → ℕ → List ℕ
part_of content n = take 16 (drop (16 * n) content)

unfoldable pub content_block : List ℕ → ℕ → List ℕ
content_block content n = part_of content n ++ replicate (16 - length (part_of content n)) 0

-- two blocks, byte by byte
abbrev pub xor_at : List ℕ → List ℕ → ℕ → ℕ
xor_at a b j = bit_xor (slice_index a j) (slice_index b j)

unfoldable pub xored : List ℕ → List ℕ → List ℕ
xored a b = map (xor_at a b) (range_with_len 0 16)

-- the chain after n blocks of the content, from the block x on
unfoldable pub chained : Cipher → List ℕ → ℕ → List ℕ → List ℕ
chained E content zero x = x
chained E content (suc n) x = E (xored (chained E content n x) (content_block content n))

-- CBC-MAC of the content
unfoldable pub mac : Cipher → List ℕ → List ℕ
mac E content = chained E content ((length content + 15) / 16) (E (first_block (length content)))

-- the tag is masked by counter block 0
unfoldable pub tag_of : Cipher → List ℕ → List ℕ
tag_of E content = xored (mac E content) (E (counter_block 0))

-- byte i of the key stream, from counter block 1 on; the content masked by it
abbrev pub stream_at : Cipher → ℕ → ℕ
stream_at E i = slice_index (E (counter_block (i / 16 + 1))) (i % 16)

abbrev pub mask_at : Cipher → List ℕ → ℕ → ℕ
mask_at E content i = bit_xor (slice_index content i) (stream_at E i)

unfoldable pub masked : Cipher → List ℕ → List ℕ
masked E content = map (mask_at E content) (range_with_len 0 (length content))

-- what a content is sealed to
unfoldable pub sealed : Cipher → List ℕ → List ℕ
sealed E content = masked E content ++ tag_of E content

-- what stands before the tag, unmasked: the only content that bytes can be sealed of
abbrev pub unmasked : Cipher → List ℕ → List ℕ
unmasked E b = masked E (take (length b - 16) b)
