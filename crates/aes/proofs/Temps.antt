-- The three cases of the word that a new word of the key expansion takes, and the rotation and the constants in it.
use Rattle.std.proofs.Common.{◌≡◌, ℕ, zero, suc, ◌+◌, ◌-◌, ◌*◌, ◌/◌, ◌%◌, ◌^◌, ◌<◌, ◌≤◌, List, refl, ap, ◌∙◌, arith, slice_index, ◌==◌}
use lib.Bits.{bit_or, bit_xor}
use Rattle.std.proofs.lemmas.Nat.{or_comm}
use Rattle.std.proofs.lemmas.Bool.{cond-true, cond-false, eq-eqb, ne_eqb}
use Rattle.aes.specs.Keys.{rot_word, sub_word, rcon, temp}
use Rattle.aes.proofs.Bytes.{word_bytes, turned24}
use Rattle.aes.proofs.Entries.{agree}

-- a rotation to the left by 8 bits turns the bytes by one
pub rot_word_lem : (x : ℕ) → x < 4294967296 → bit_or (x * 256 % 4294967296) (x / 16777216) ≡ rot_word x
unfolding rot_word
rot_word_lem x h =
    or_comm (x * 256 % 4294967296) (x / 16777216)
    ∙ ap (λ (y : ℕ). bit_or (y / 16777216) (y * 256 % 4294967296)) (word_bytes x h)
    ∙ turned24 (x / 16777216 % 256) (x / 65536 % 256) (x / 256 % 256) (x % 256) (omega arith) (omega arith) (omega arith) (omega arith)

-- the round constants, each computed
pub round_constant : (j : ℕ) → 1 ≤ j → j < 8 → 1 * 2 ^ (j + 23) % 4294967296 ≡ rcon j
unfolding rcon
round_constant zero h l = absurd (omega arith)
round_constant (suc k) h l = agree (λ k. 1 * 2 ^ (suc k + 23) % 4294967296) (λ k. rcon (suc k)) 7 refl k (omega arith)

pub temp_first : (w : List ℕ) (i : ℕ) → i % 8 ≡ 0 → temp w i ≡ bit_xor (sub_word (rot_word (slice_index w (i - 1)))) (rcon (i / 8))
unfolding temp
temp_first w i h = cond-true ((i % 8) == 0) _ _ (eq-eqb (i % 8) 0 h)

pub temp_middle : (w : List ℕ) (i : ℕ) → i % 8 ≡ 4 → temp w i ≡ sub_word (slice_index w (i - 1))
unfolding temp
temp_middle w i h = cond-false ((i % 8) == 0) _ _ (ne_eqb (i % 8) 0 (λ e. omega arith)) ∙ cond-true ((i % 8) == 4) _ _ (eq-eqb (i % 8) 4 h)

pub temp_other : (w : List ℕ) (i : ℕ) → (i % 8 ≡ 0 → ⊥) → (i % 8 ≡ 4 → ⊥) → temp w i ≡ slice_index w (i - 1)
unfolding temp
temp_other w i h g = cond-false ((i % 8) == 0) _ _ (ne_eqb (i % 8) 0 h) ∙ cond-false ((i % 8) == 4) _ _ (ne_eqb (i % 8) 4 g)
