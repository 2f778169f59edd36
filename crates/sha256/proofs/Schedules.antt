-- The schedule that is worked out word by word is the standard's.
use Rattle.std.proofs.Common.{◌≡◌, ℕ, zero, suc, ◌+◌, ◌-◌, ◌<◌, ◌≤◌, List, length, set, replicate, sym, refl, ap, ◌∙◌, subst, inl, inr, add-one, arith, lit≤, length-set, get_or-set_other, get_or-set_same, slice_index}
use Rattle.std.proofs.lemmas.Bool.{cases_eq}
use Rattle.sha256.specs.Block.{word_at, words, next_word, extended, schedule}
use Rattle.sha256.specs.Laws.{EverySchedule}

length-words : (n : ℕ) (b ws : List ℕ) → length (words n b ws) ≡ length ws
unfolding words
length-words zero b ws = refl
length-words (suc n) b ws = length-set (words n b ws) n (word_at b n) ∙ length-words n b ws

words-at : (n : ℕ) (b ws : List ℕ) → n ≤ length ws → (t : ℕ) → t < n → slice_index (words n b ws) t ≡ word_at b t
unfolding words
words-at zero b ws h t l = absurd (omega arith)
words-at (suc n) b ws h t l =
    elim (cases_eq t n) [
      | inl same ↦ ap (λ (x : ℕ). slice_index (set (words n b ws) n (word_at b n)) x) same
          ∙ get_or-set_same (words n b ws) n (word_at b n) 0 (omega (arith, length-words n b ws)) ∙ ap (word_at b) (sym same)
      | inr other ↦ get_or-set_other (words n b ws) n t (word_at b n) 0 other ∙ words-at n b ws (omega arith) t (omega (arith, other))
    ]

length-extended : (n : ℕ) (ws : List ℕ) → length (extended n ws) ≡ length ws
unfolding extended
length-extended zero ws = refl
length-extended (suc n) ws = length-set (extended n ws) (16 + n) _ ∙ length-extended n ws

-- d more words leave those below the first of them
still : (d n : ℕ) (ws : List ℕ) (k : ℕ) → k < 16 + n → slice_index (extended (d + n) ws) k ≡ slice_index (extended n ws) k
unfolding extended
still zero n ws k h = ap (λ (x : ℕ). slice_index (extended x ws) k) (let e : 0 + n ≡ n = omega arith in e)
still (suc d) n ws k h =
    ap (λ (x : ℕ). slice_index (extended x ws) k) (let e : suc d + n ≡ suc (d + n) = omega arith in e)
    ∙ get_or-set_other (extended (d + n) ws) (16 + (d + n)) k (next_word (extended (d + n) ws) (16 + (d + n))) 0 (omega arith)
    ∙ still d n ws k h

kept : (m n : ℕ) (ws : List ℕ) (k : ℕ) → n ≤ m → k < 16 + n → slice_index (extended m ws) k ≡ slice_index (extended n ws) k
kept m n ws k l h = ap (λ (x : ℕ). slice_index (extended x ws) k) (let e : m ≡ m - n + n = omega arith in e) ∙ still (m - n) n ws k h

none : (ws : List ℕ) (t : ℕ) → slice_index (extended 0 ws) t ≡ slice_index ws t
unfolding extended
none ws t = refl

made : (ws : List ℕ) (t : ℕ) → 16 + t < length (extended t ws) → slice_index (extended (t + 1) ws) (16 + t) ≡ next_word (extended t ws) (16 + t)
unfolding extended
made ws t h = rw add-one (get_or-set_same (extended t ws) (16 + t) (next_word (extended t ws) (16 + t)) 0 h)

-- a turn of the loop over the words from 16 on
pub extended_more : (t : ℕ) (w ws : List ℕ) → 16 ≤ t → w ≡ extended (t - 16) ws → set w t (next_word w t) ≡ extended (t + 1 - 16) ws
unfolding extended
extended_more t w ws h e =
    let at : 16 + (t - 16) ≡ t = omega arith in
    let n : t + 1 - 16 ≡ suc (t - 16) = omega arith in
    ap (λ (x : List ℕ). set x t (next_word x t)) e ∙ ap (λ (k : ℕ). set (extended (t - 16) ws) k (next_word (extended (t - 16) ws) k)) (sym at)
    ∙ ap (λ (k : ℕ). extended k ws) (sym n)

-- a word needs only those before it
same : (x y : List ℕ) (t : ℕ) → ((k : ℕ) → k < 16 + t → slice_index x k ≡ slice_index y k) → next_word x (16 + t) ≡ next_word y (16 + t)
unfolding next_word
same x y t e =
    let p = e (16 + t - 2) (omega arith) in
    let q = e (16 + t - 7) (omega arith) in
    let r = e (16 + t - 15) (omega arith) in
    let s = e (16 + t - 16) (omega arith) in
    simp (p, q, r, s)

later : (ws : List ℕ) (t : ℕ) → length ws ≡ 64 → t < 48 → slice_index (extended 48 ws) (16 + t) ≡ next_word (extended 48 ws) (16 + t)
later ws t l h =
    kept 48 (t + 1) ws (16 + t) (omega arith) (omega arith) ∙ made ws t (omega (arith, length-extended t ws))
    ∙ same (extended t ws) (extended 48 ws) t (λ k h'. sym (kept 48 t ws k (omega arith) h'))

pub schedules : EverySchedule
unfolding schedule next_word
schedules b =
    let ws = words 16 b (replicate 64 0) in
    let lw : length ws ≡ 64 = length-words 16 b (replicate 64 0) in
    record {
      long = length-extended 48 ws ∙ lw;
      first = λ t h. kept 48 0 ws t (omega arith) (omega arith) ∙ none ws t ∙ words-at 16 b (replicate 64 0) (lit≤ tt) t h;
      later = λ t l h.
          let e : 16 + (t - 16) ≡ t = omega arith in
          subst (λ (k : ℕ). slice_index (extended 48 ws) k ≡ next_word (extended 48 ws) k) e (later ws (t - 16) lw (omega arith));
    }
