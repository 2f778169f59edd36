-- The check bytes of the bench scheme, summed column by column.
use Rattle.std.specs.Prelude.{◌≡◌, ℕ, ◌+◌, ◌%◌, ◌<◌, ◌≤◌, true, false, cond, List, length, drop, ◌==◌, nat_eq, slice_index, slice_index_or, slice_set}
use Rattle.std.proofs.Common.{sym, ◌∙◌, ap, ⊎_elim, arith, add-one}
use Rattle.std.proofs.lemmas.List.{at_drop_more, at_drop_all, get_or-set_same, get_or-set_other}
use Rattle.std.proofs.lemmas.List.FromFn.{fill_by_all, length-map-range_with_len}
use Rattle.std.proofs.lemmas.Bool.{cases_eq, eq-eqb, ne_eqb}
use Rattle.sealing.specs.Bench.{column, check_byte, check_bytes}

column_more : (xs : List ℕ) (i j : ℕ) → i < length xs → column i j (drop i xs) ≡ cond (i % 16 == j) (slice_index xs i) 0 + column (i + 1) j (drop (i + 1) xs)
unfolding column
column_more xs i j h = at_drop_more (column i j) xs i 0 h ∙ ap (λ z. cond (i % 16 == j) (slice_index xs i) 0 + column z j (drop (i + 1) xs)) (sym (add-one i))

column-all : (xs : List ℕ) (i j : ℕ) → length xs ≤ i → column i j (drop i xs) ≡ 0
unfolding column
column-all xs i j h = at_drop_all (column i j) xs i h

-- one byte more
module _ (sums xs : List ℕ) (i j total : ℕ) (wide : length sums ≡ 16) (inside : i < length xs)
    (inv : (slice_index sums j + column i j (drop i xs)) % 256 ≡ total) where
  abbrev added : ℕ
  added = (slice_index sums (i % 16) + slice_index xs i) % 256

  pub column-added : (slice_index (slice_set sums (i % 16) added) j + column (i + 1) j (drop (i + 1) xs)) % 256 ≡ total
  column-added =
      let m = column_more xs i j inside in
      let rest : ℕ = column (i + 1) j (drop (i + 1) xs) in
      ⊎_elim
      (λ e. let s : slice_index_or (slice_set sums (i % 16) added) j 0 ≡ added = ap (λ z. slice_index (slice_set sums z added) j) (sym e) ∙ get_or-set_same sums j added 0 (omega arith) in
      let q : nat_eq (i % 16) j ≡ true = eq-eqb (i % 16) j (sym e) in
      let n : column i j (drop i xs) ≡ slice_index xs i + rest = m ∙ ap (λ z. cond z (slice_index xs i) 0 + rest) q in
      let k : slice_index_or sums (i % 16) 0 ≡ slice_index_or sums j 0 = ap (λ z. slice_index sums z) (sym e) in
      omega (arith, s, n, k))
      (λ e. let s : slice_index_or (slice_set sums (i % 16) added) j 0 ≡ slice_index_or sums j 0 = get_or-set_other sums (i % 16) j added 0 e in
      let q : nat_eq (i % 16) j ≡ false = ne_eqb (i % 16) j (λ f. e (sym f)) in
      let n : column i j (drop i xs) ≡ 0 + rest = m ∙ ap (λ z. cond z (slice_index xs i) 0 + rest) q in
      omega (arith, s, n))
      (cases_eq j (i % 16))

pub still_byte : (sums : List ℕ) (k v j : ℕ) → length sums ≡ 16 → j < 16 → slice_index sums j < 256 → slice_index (slice_set sums k (v % 256)) j < 256
still_byte sums k v j wide h b =
    ⊎_elim
    (λ e. omega (arith, ap (λ z. slice_index (slice_set sums z (v % 256)) j) (sym e) ∙ get_or-set_same sums j (v % 256) 0 (omega arith)))
    (λ e. omega (arith, get_or-set_other sums k j (v % 256) 0 e))
    (cases_eq j k)

-- all of them
pub all_checked : (key nonce content sums : List ℕ) (i : ℕ) → length sums ≡ 16 → length content ≤ i → ((j : ℕ) → j < 16 → slice_index sums j < 256)
    → ((j : ℕ) → j < 16 → (slice_index sums j + column i j (drop i content)) % 256 ≡ (slice_index key j + slice_index nonce j + column 0 j content) % 256)
    → sums ≡ check_bytes key nonce content
unfolding check_byte check_bytes
all_checked key nonce content sums i wide end fits inv =
    fill_by_all (check_byte key nonce content) sums 16 0 wide
    (λ j h. omega (arith, inv j h, fits j h, column-all content i j end))

pub length_checks : (key nonce content : List ℕ) → length (check_bytes key nonce content) ≡ 16
unfolding check_bytes
length_checks key nonce content = length-map-range_with_len (check_byte key nonce content) 0 16
