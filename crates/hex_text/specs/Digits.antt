-- Bytes written as pairs of hex digits, 0 to 9 and a to f, the high digit first.
use Rattle.std.specs.Prelude.{ℕ, ◌+◌, ◌-◌, ◌*◌, ◌/◌, ◌%◌, ◌&&◌, List, [], ◌∷◌, Some, None, vec_items, Option, Vec, nat_le, if◌then◌else◌}

-- the text of some bytes
abbrev pub glyph_of : ℕ → ℕ
glyph_of n = if nat_le n 9 then 48 + n else 87 + n

abbrev pub hex : List ℕ → List ℕ
hex [] = []
hex (b ∷ bs) = glyph_of (b / 16) ∷ glyph_of (b % 16) ∷ hex bs

abbrev pub digit_of : ℕ → Option ℕ
digit_of c = if nat_le 48 c && nat_le c 57 then Some (c - 48) else if nat_le 97 c && nat_le c 102 then Some (c - 87) else None

abbrev pub paired : Option ℕ → Option ℕ → Option ℕ
paired None low = None
paired (Some h) None = None
paired (Some h) (Some l) = Some (16 * h + l)

abbrev pub followed : Option ℕ → Option (List ℕ) → Option (List ℕ)
followed None rest = None
followed (Some b) None = None
followed (Some b) (Some bs) = Some (b ∷ bs)

-- the bytes that a text writes, if it writes any
unfoldable pub unhex : List ℕ → Option (List ℕ)
unhex [] = Some []
unhex (a ∷ []) = None
unhex (a ∷ b ∷ rest) = followed (paired (digit_of a) (digit_of b)) (unhex rest)

-- what the code read
abbrev pub read : {Z : Type 0} → Option (Vec ℕ Z) → Option (List ℕ)
read None = None
read (Some v) = Some (vec_items v)
