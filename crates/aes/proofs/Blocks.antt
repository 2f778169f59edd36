-- What the last step gives is 16 bytes.
use Rattle.std.proofs.Common.{◌≡◌, ℕ, zero, suc, ◌%◌, ◌<◌, List, [], ◌∷◌, length, refl, arith, lit<, slice_index}
use lib.Bits.{bit_xor, xor_lt}
use Rattle.aes.specs.Field.{sub}
use Rattle.aes.specs.Cipher.{add_round_key, cipher}
use Rattle.aes.specs.Laws.{ACipherIsABlock}
use Rattle.aes.proofs.Bounds.{sub_lt}

-- every entry is a byte
Bytes : List ℕ → Type 0
Bytes l = (i : ℕ) → slice_index l i < 256

none : Bytes []
unfolding Bytes
none i = lit< tt

one_more : (x y : ℕ) (l : List ℕ) → Bytes l → Bytes (bit_xor (sub x) (y % 256) ∷ l)
unfolding Bytes
one_more x y l h zero = xor_lt 8 (sub x) (y % 256) (sub_lt x) (omega arith)
one_more x y l h (suc i) = h i

bytes_at : (l : List ℕ) → Bytes l → (i : ℕ) → slice_index l i < 256
unfolding Bytes
bytes_at l h = h

all : (w b : List ℕ) → Bytes (cipher w b)
unfolding cipher add_round_key
all w b =
    one_more _ _ _ (one_more _ _ _ (one_more _ _ _ (one_more _ _ _
    (one_more _ _ _ (one_more _ _ _ (one_more _ _ _ (one_more _ _ _
    (one_more _ _ _ (one_more _ _ _ (one_more _ _ _ (one_more _ _ _
    (one_more _ _ _ (one_more _ _ _ (one_more _ _ _ (one_more _ _ _ none)))))))))))))))

long : (w b : List ℕ) → length (cipher w b) ≡ 16
unfolding cipher add_round_key
long w b = refl

pub blocks : ACipherIsABlock
blocks w b = record { long = long w b; bytes = bytes_at (cipher w b) (all w b) }
