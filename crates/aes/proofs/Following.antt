-- The words that the key expansion sets one after the other are the standard's.
use Rattle.std.proofs.Common.{◌≡◌, ℕ, zero, suc, ◌+◌, ◌-◌, ◌<◌, ◌≤◌, List, length, set, sym, refl, ap, ◌∙◌, subst, ap₂, inl, inr, arith, lit≤, length-set, get_or-set_other, get_or-set_same, slice_index}
use lib.Bits.{bit_xor}
use Rattle.std.proofs.lemmas.Bool.{cases_eq}
use Rattle.aes.specs.Keys.{key_word, key_words, temp, expand, key_expansion}
use Rattle.aes.specs.Laws.{TheKeyExpansionFollowsItsRule}

length-words : (k : List ℕ) (n : ℕ) → length (key_words k n) ≡ 60
unfolding key_words
length-words k zero = refl
length-words k (suc n) = length-set (key_words k n) n (key_word k n) ∙ length-words k n

words-at : (k : List ℕ) (n : ℕ) → n ≤ 60 → (i : ℕ) → i < n → slice_index (key_words k n) i ≡ key_word k i
unfolding key_words
words-at k zero h i l = absurd (omega arith)
words-at k (suc n) h i l =
    elim (cases_eq i n) [
      | inl same ↦
          ap (λ (j : ℕ). slice_index (set (key_words k n) n (key_word k n)) j) same
          ∙ get_or-set_same (key_words k n) n (key_word k n) 0 (omega (arith, length-words k n))
          ∙ ap (key_word k) (sym same)
      | inr other ↦ get_or-set_other (key_words k n) n i (key_word k n) 0 other ∙ words-at k n (omega arith) i (omega (arith, other))
    ]

length-expand : (n : ℕ) (w : List ℕ) → length (expand n w) ≡ length w
unfolding expand
length-expand zero w = refl
length-expand (suc n) w = length-set (expand n w) (8 + n) _ ∙ length-expand n w

-- d further turns leave the words below 8 + n
still : (d n : ℕ) (w : List ℕ) (i : ℕ) → i < 8 + n → slice_index (expand (d + n) w) i ≡ slice_index (expand n w) i
unfolding expand
still zero n w i h = ap (λ (m : ℕ). slice_index (expand m w) i) (let e : 0 + n ≡ n = omega arith in e)
still (suc d) n w i h =
    ap (λ (m : ℕ). slice_index (expand m w) i) (let e : suc d + n ≡ suc (d + n) = omega arith in e)
    ∙ get_or-set_other (expand (d + n) w) (8 + (d + n)) i _ 0 (omega arith)
    ∙ still d n w i h

-- the words below 8 + n stand as they were after n turns
kept : (n : ℕ) (w : List ℕ) (i : ℕ) → n ≤ 52 → i < 8 + n → slice_index (expand 52 w) i ≡ slice_index (expand n w) i
kept n w i l h = ap (λ (m : ℕ). slice_index (expand m w) i) (let e : 52 ≡ (52 - n) + n = omega arith in e) ∙ still (52 - n) n w i h

unchanged : (w : List ℕ) (i : ℕ) → slice_index (expand 0 w) i ≡ slice_index w i
unfolding expand
unchanged w i = refl

-- the word of turn n
made : (w : List ℕ) (n : ℕ) → 8 + n < length (expand n w) → slice_index (expand (suc n) w) (8 + n) ≡ bit_xor (slice_index (expand n w) n) (temp (expand n w) (8 + n))
unfolding expand
made w n h = get_or-set_same (expand n w) (8 + n) _ 0 h

-- a turn of the loop over the words from 8 on
pub expand_more : (i x : ℕ) (w ws : List ℕ) → 8 ≤ i → x ≡ temp w i → w ≡ expand (i - 8) ws → set w i (bit_xor (slice_index w (i - 8)) x) ≡ expand (i + 1 - 8) ws
unfolding expand
expand_more i x w ws h t e =
    let at : 8 + (i - 8) ≡ i = omega arith in
    let n : i + 1 - 8 ≡ suc (i - 8) = omega arith in
    ap (λ (y : ℕ). set w i (bit_xor (slice_index w (i - 8)) y)) t
    ∙ ap (λ (v : List ℕ). set v i (bit_xor (slice_index v (i - 8)) (temp v i))) e
    ∙ ap (λ (k : ℕ). set (expand (i - 8) ws) k (bit_xor (slice_index (expand (i - 8) ws) (i - 8)) (temp (expand (i - 8) ws) k))) (sym at)
    ∙ ap (λ (k : ℕ). expand k ws) (sym n)

-- it depends on the word before alone
temp_same : (v w : List ℕ) (i : ℕ) → slice_index v (i - 1) ≡ slice_index w (i - 1) → temp v i ≡ temp w i
unfolding temp
temp_same v w i e = simp e

later : (w : List ℕ) (n : ℕ) → length w ≡ 60 → n < 52 → slice_index (expand 52 w) (8 + n) ≡ bit_xor (slice_index (expand 52 w) n) (temp (expand 52 w) (8 + n))
later w n l h =
    kept (suc n) w (8 + n) (omega arith) (omega arith)
    ∙ made w n (omega (arith, length-expand n w))
    ∙ ap₂ bit_xor (sym (kept n w n (omega arith) (omega arith))) (temp_same (expand n w) (expand 52 w) (8 + n) (sym (kept n w (8 + n - 1) (omega arith) (omega arith))))

pub follows : TheKeyExpansionFollowsItsRule
unfolding key_expansion
follows k =
    let w = key_words k 8 in
    let x = expand 52 w in
    record {
      long = length-expand 52 w ∙ length-words k 8;
      first = λ i h. kept 0 w i (lit≤ tt) (omega arith) ∙ unchanged w i ∙ words-at k 8 (lit≤ tt) i h;
      later = λ i h l.
          let e : 8 + (i - 8) ≡ i = omega arith in
          subst (λ (j : ℕ). slice_index x j ≡ bit_xor (slice_index x (i - 8)) (temp x j)) e (later w (i - 8) (length-words k 8) (omega arith));
    }
