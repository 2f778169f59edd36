-- Lemmas on bits: what setting those of a fingerprint does to each, and what testing them tells.
use Rattle.std.proofs.Common.{◌≡◌, ℕ, zero, suc, ◌+◌, ◌*◌, ◌/◌, ◌%◌, ◌^◌, ◌<◌, ◌≤◌, Bool, true, false, ◌&&◌, ◌||◌, nat_eq, List, [], ◌∷◌, ◌++◌, length, slice_index, set, replicate, sym, refl, ap, ◌∙◌, ⊎_elim, mod-lt, add-zero, zero-add, arith, length-set}
use native.Mathlib.Nat.{zero-div}
use lib.Bits.{bit_or}
use Rattle.std.proofs.Math.Bool.{or_assoc, or-false}
use Rattle.std.specs.List.{fold, list_all}
use Rattle.std.proofs.lemmas.List.{get_or-set_same, get_or-set_other, get_or-replicate, get_or_append_left, length-replicate}
use Rattle.std.proofs.lemmas.Bool.{false≢true, eqb-true, eq-eqb, ne_eqb, cases_eq, and_from, and_left, and_parts, or_cases, or_left, or_right}
use Rattle.filter.specs.Lists.{member}
use Rattle.bloom.specs.Bits.{bit, set_bit, step, position, ahead, all_set, with_set}
use Rattle.bloom.specs.OneBit.{or_one}

pub length-set_bit : (ws : List ℕ) (q : ℕ) → length (set_bit ws q) ≡ length ws
unfolding set_bit
length-set_bit ws q = length-set ws (q / 64) _

-- two positions in one word are the same just if they are the same bit of it
same_bit : (q p : ℕ) → p / 64 ≡ q / 64 → nat_eq (q % 64) (p % 64) ≡ nat_eq q p
same_bit q p w =
    ⊎_elim
    (λ (e : q ≡ p). eq-eqb _ _ (ap (λ z. z % 64) e) ∙ sym (eq-eqb q p e))
    (λ (n : q ≡ p → ⊥). ne_eqb _ _ (λ (e : q % 64 ≡ p % 64). n (omega arith)) ∙ sym (ne_eqb q p n))
    (cases_eq q p)

-- every bit after one was set
pub bit-set : (ws : List ℕ) (q p : ℕ) → q / 64 < length ws → bit (set_bit ws q) p ≡ (bit ws p || nat_eq q p)
unfolding set_bit
bit-set ws q p h =
    let w = slice_index ws (q / 64) in
    let v = bit_or w (2 ^ (q % 64)) in
    ⊎_elim
    (λ (same : p / 64 ≡ q / 64).
    ap (λ (x : ℕ). nat_eq (slice_index (set ws (q / 64) v) x / 2 ^ (p % 64) % 2) 1) same
    ∙ ap (λ (x : ℕ). nat_eq (x / 2 ^ (p % 64) % 2) 1) (get_or-set_same ws (q / 64) v 0 h)
    ∙ or_one w (q % 64) (p % 64)
    ∙ ap (λ z. nat_eq (w / 2 ^ (p % 64) % 2) 1 || z) (same_bit q p same)
    ∙ ap (λ (x : ℕ). nat_eq (slice_index ws x / 2 ^ (p % 64) % 2) 1 || nat_eq q p) (sym same))
    (λ (other : p / 64 ≡ q / 64 → ⊥).
    ap (λ (x : ℕ). nat_eq (x / 2 ^ (p % 64) % 2) 1) (get_or-set_other ws (q / 64) (p / 64) v 0 other)
    ∙ sym (ap (λ z. bit ws p || z) (ne_eqb q p (λ (e : q ≡ p). other (ap (λ z. z / 64) (sym e)))) ∙ or-false (bit ws p)))
    (cases_eq (p / 64) (q / 64))

-- every bit after those of n positions were
bits_ahead : (m s n q : ℕ) (ws : List ℕ) (p : ℕ) → q < m → m ≤ 64 * length ws
    → bit (fold set_bit ws (ahead m s q n)) p ≡ (bit ws p || member p (ahead m s q n))
unfolding ahead
bits_ahead m s zero q ws p l fits = sym (or-false (bit ws p))
bits_ahead m s (suc n) q ws p l fits =
    let e = length-set_bit ws q in
    bits_ahead m s n ((q + s) % m) (set_bit ws q) p (mod-lt (q + s) (omega arith)) (omega arith)
    ∙ ap (λ z. z || member p (ahead m s ((q + s) % m) n)) (bit-set ws q p (omega arith))
    ∙ or_assoc (bit ws p) (nat_eq q p) (member p (ahead m s ((q + s) % m) n))

length-ahead : (m s n q : ℕ) (ws : List ℕ) → length (fold set_bit ws (ahead m s q n)) ≡ length ws
unfolding ahead
length-ahead m s zero q ws = refl
length-ahead m s (suc n) q ws = length-ahead m s n ((q + s) % m) (set_bit ws q) ∙ length-set_bit ws q

-- a test of all of a list, and of each member
pub all-at : (test : ℕ → Bool) (ps : List ℕ) → list_all test ps ≡ true → (p : ℕ) → member p ps ≡ true → test p ≡ true
all-at test [] a p h = absurd (false≢true h)
all-at test (q ∷ ps) a p h =
    let parts = and_parts (test q) (list_all test ps) a in
    ⊎_elim (λ e. ap test (sym (eqb-true q p e)) ∙ parts.0) (λ e. all-at test ps parts.1 p e) (or_cases _ _ h)

pub all_from : (test : ℕ → Bool) (ps : List ℕ) → ((p : ℕ) → member p ps ≡ true → test p ≡ true) → list_all test ps ≡ true
all_from test [] h = refl
all_from test (q ∷ ps) h = and_from _ _ (h q (or_left _ _ (eq-eqb q q refl))) (all_from test ps (λ p l. h p (or_right _ _ l)))

-- all of them by the list of positions
and_turned : (a b c : Bool) → ((a && b) && c) ≡ (b && (c && a))
and_turned true true true = refl
and_turned true true false = refl
and_turned true false c = refl
and_turned false true true = refl
and_turned false true false = refl
and_turned false false c = refl

and_last : (b : Bool) → b ≡ (b && true)
and_last true = refl
and_last false = refl

-- from position j on
all_ahead : (ws : List ℕ) (m f n j : ℕ) → (list_all (bit ws) (ahead m (step m f) (position m f j) n) && all_set ws m f j) ≡ all_set ws m f (j + n)
unfolding ahead all_set position
all_ahead ws m f zero j = rw add-zero refl
all_ahead ws m f (suc n) j =
    let e : suc j + n ≡ j + suc n = omega arith in
    and_turned (bit ws (position m f j)) (list_all (bit ws) (ahead m (step m f) (position m f (suc j)) n)) (all_set ws m f j) ∙ all_ahead ws m f n (suc j) ∙ ap (all_set ws m f) e

with_ahead : (ws : List ℕ) (m f n j : ℕ) → fold set_bit (with_set ws m f j) (ahead m (step m f) (position m f j) n) ≡ with_set ws m f (j + n)
unfolding ahead with_set position
with_ahead ws m f zero j = rw add-zero refl
with_ahead ws m f (suc n) j = let e : suc j + n ≡ j + suc n = omega arith in with_ahead ws m f n (suc j) ∙ ap (with_set ws m f) e

pub all_from_first : (ws : List ℕ) (m f k : ℕ) → list_all (bit ws) (ahead m (step m f) (f % m) k) ≡ all_set ws m f k
unfolding all_set position
all_from_first ws m f k = and_last (list_all (bit ws) (ahead m (step m f) (f % m) k)) ∙ all_ahead ws m f k 0 ∙ ap (all_set ws m f) (zero-add k)

pub with_from_first : (ws : List ℕ) (m f k : ℕ) → fold set_bit ws (ahead m (step m f) (f % m) k) ≡ with_set ws m f k
unfolding with_set position
with_from_first ws m f k = with_ahead ws m f k 0 ∙ ap (with_set ws m f) (zero-add k)

-- no bit of zeros is set, whatever follows them
pub zero_word : (n i : ℕ) (rest : List ℕ) → i < n → ◌≡◌ {A = ℕ} (slice_index (replicate n 0 ++ rest) i) 0
zero_word n i rest h = get_or_append_left (replicate n 0) rest 0 i (omega (arith, length-replicate {A = ℕ} n 0)) ∙ get_or-replicate n i 0 0 h

pub no_bit : (n p : ℕ) (rest : List ℕ) → p < n * 64 → bit (replicate n 0 ++ rest) p ≡ false
no_bit n p rest h =
    let z : slice_index (replicate n 0 ++ rest) (p / 64) / 2 ^ (p % 64) ≡ 0 =
    ap (λ (x : ℕ). x / 2 ^ (p % 64)) (zero_word n (p / 64) rest (omega arith)) ∙ zero-div (2 ^ (p % 64)) in
    ne_eqb _ 1 (λ e. omega arith)

pub none_set : (n f k : ℕ) (rest : List ℕ) → 0 < n → 0 < k → all_set (replicate n 0 ++ rest) (n * 64) f k ≡ false
unfolding ahead
none_set n f zero rest some h = absurd (omega arith)
none_set n f (suc k) rest some h =
    let m : 0 < n * 64 = omega arith in
    sym (all_from_first (replicate n 0 ++ rest) (n * 64) f (suc k)) ∙ and_left _ _ (no_bit n (f % (n * 64)) rest (mod-lt f m))

-- what setting those of f leaves
module _ (ws : List ℕ) (m f : ℕ) (some : 0 < m) (fits : m ≤ 64 * length ws) where
  pub length_with : (k : ℕ) → length (with_set ws m f k) ≡ length ws
  length_with k = sym (ap length (with_from_first ws m f k)) ∙ length-ahead m (step m f) k (f % m) ws

  pub bits_with : (k p : ℕ) → bit (with_set ws m f k) p ≡ (bit ws p || member p (ahead m (step m f) (f % m) k))
  bits_with k p = sym (ap (λ z. bit z p) (with_from_first ws m f k)) ∙ bits_ahead m (step m f) k (f % m) ws p (mod-lt f some) fits

  pub refuses_f : (k : ℕ) → all_set (with_set ws m f k) m f k ≡ true
  refuses_f k = sym (all_from_first (with_set ws m f k) m f k) ∙ all_from _ (ahead m (step m f) (f % m) k) (λ p h. bits_with k p ∙ or_right _ _ h)

  pub refuses_still : (k g : ℕ) → all_set ws m g k ≡ true → all_set (with_set ws m f k) m g k ≡ true
  refuses_still k g e =
      sym (all_from_first (with_set ws m f k) m g k)
      ∙ all_from _ (ahead m (step m g) (g % m) k) (λ p h. bits_with k p ∙ or_left _ _ (all-at (bit ws) (ahead m (step m g) (g % m) k) (all_from_first ws m g k ∙ e) p h))
