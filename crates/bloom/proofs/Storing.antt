-- Stores, as they are made one after the other.
use Rattle.std.proofs.Common.{◌≡◌, ℕ, zero, suc, ◌+◌, ◌*◌, ◌/◌, ◌%◌, ◌^◌, ◌<◌, ◌≤◌, Bool, true, false, if◌then◌else◌, nat_eq, List, [], ◌∷◌, ◌++◌, length, drop, set, replicate, slice_index, slice_set, sym, refl, ap, ◌∙◌, subst, ⊎_elim, add-zero, zero-add, add-one, arith, length-set}
use Rattle.std.specs.Int.Bits.{bit_or, bit_and, or_add_and}
use Rattle.std.proofs.lemmas.Nat.Bits.{and_pow}
use Rattle.std.proofs.lemmas.Bool.{true≢false, eqb-true, eq-eqb, ne_eqb, cond-true, cond-false, cases_Bool, cases_eq, or_right}
use Rattle.std.proofs.lemmas.List.{drop_more, set-get_or}
use Rattle.answers.specs.Successions.Succession.{new, then as on}
use Rattle.bloom.specs.Bits.{bit, set_bit, step, position, ahead, with_set}
use Rattle.bloom.specs.BitLaws.{length-set_bit, with_from_first}
use Rattle.bloom.specs.OneBit.{or_one}
use Rattle.bloom.specs.Stores.{Store, setting_bit, setting, clearing, Stored, SetsBit, Sets, Clears}
use Rattle.std.specs.List.{fold}

-- a word with a bit that it has
or_kept : (w j : ℕ) → w / 2 ^ j % 2 ≡ 1 → bit_or w (2 ^ j) ≡ w
or_kept w j h = let s = or_add_and w (2 ^ j) in let e : bit_and w (2 ^ j) ≡ 2 ^ j = and_pow w j ∙ ap (λ z. z * 2 ^ j) h ∙ (let p : 1 * 2 ^ j ≡ 2 ^ j = omega arith in p) in omega arith

-- which bit it has is told by whether it is another word with it
pub set_if_same : (w j : ℕ) → bit_or w (2 ^ j) ≡ w → nat_eq (w / 2 ^ j % 2) 1 ≡ true
set_if_same w j e = ap (λ z. nat_eq (z / 2 ^ j % 2) 1) (sym e) ∙ or_one w j j ∙ or_right (nat_eq (w / 2 ^ j % 2) 1) (nat_eq j j) (eq-eqb j j refl)

pub clear_if_other : (w j : ℕ) → (bit_or w (2 ^ j) ≡ w → ⊥) → nat_eq (w / 2 ^ j % 2) 1 ≡ false
clear_if_other w j d = ⊎_elim (λ y. absurd (d (or_kept w j (eqb-true _ 1 y)))) (λ n. n) (cases_Bool (nat_eq (w / 2 ^ j % 2) 1))

-- a bit that is clear is set by its store; one that is set stands as it is
pub set_twice : (ws : List ℕ) (p : ℕ) → bit ws p ≡ true → set_bit ws p ≡ ws
unfolding set_bit
set_twice ws p h = ap (set ws (p / 64)) (or_kept (slice_index ws (p / 64)) (p % 64) (eqb-true _ 1 h)) ∙ set-get_or ws (p / 64) 0

module _ {W : Type 0} (S : W → ℕ → ℕ → W → Type 0) (words : W → List ℕ) where
  pub stands : (w w' : W) (p : ℕ) → bit (words w) p ≡ true → w' ≡ w → SetsBit S words p w w'
  stands w w' p h e =
      let same : SetsBit S words p w w = record {
        words_set = sym (set_twice (words w) p h);
        stored = subst (λ xs. Stored S w xs w) (sym (cond-true _ _ _ h)) new;
      } in
      subst (λ (z : W). SetsBit S words p w z) (sym e) same

  pub is_set : (w w' : W) (p x : ℕ) → bit (words w) p ≡ false → x ≡ bit_or (slice_index (words w) (p / 64)) (2 ^ (p % 64))
      → S w (p / 64) x w' → words w' ≡ slice_set (words w) (p / 64) x → SetsBit S words p w w'
  unfolding set_bit
  is_set w w' p x h e s l =
      let t : S w (p / 64) (bit_or (slice_index (words w) (p / 64)) (2 ^ (p % 64))) w' = subst (λ y. S w (p / 64) y w') e s in
      record {
        words_set = l ∙ ap (slice_set (words w) (p / 64)) e;
        stored = subst (λ xs. Stored S w xs w') (sym (cond-false _ _ _ h)) (on new t);
      }

-- the stores that are made by setting one position after the other, past those made before
pub along : List ℕ → List Store → List ℕ → List Store
along ws xs [] = xs
along ws xs (p ∷ ps) = along (set_bit ws p) (if bit ws p then xs else setting_bit ws p ∷ xs) ps

-- all of them are those of the definition
along_ahead : (ws : List ℕ) (m f n j : ℕ) → along (with_set ws m f j) (setting ws m f j) (ahead m (step m f) (position m f j) n) ≡ setting ws m f (j + n)
unfolding along ahead with_set position setting
along_ahead ws m f zero j = rw add-zero refl
along_ahead ws m f (suc n) j = let e : suc j + n ≡ j + suc n = omega arith in along_ahead ws m f n (suc j) ∙ ap (setting ws m f) e

along_from_first : (ws : List ℕ) (m f k : ℕ) → along ws [] (ahead m (step m f) (f % m) k) ≡ setting ws m f k
unfolding with_set position setting
along_from_first ws m f k = along_ahead ws m f k 0 ∙ ap (setting ws m f) (zero-add k)

module _ {W : Type 0} (S : W → ℕ → ℕ → W → Type 0) where
  joined : {w w' w'' : W} {xs : List Store} (x : Store) → Stored S w xs w' → (b : Bool) → Stored S w' (if b then [] else x ∷ []) w'' → Stored S w (if b then xs else x ∷ xs) w''
  joined x s true new = s
  joined x s false (on new t) = on s t

  module _ (words : W → List ℕ) where
    -- on the way from the memory o, w still has the positions ps to set
    pub record Underway (o : W) (m f k : ℕ) (w : W) (ps : List ℕ) : Type 0 where
      pub as_long : length (words w) ≡ length (words o)
      pub so_far : List Store
      pub stored : Stored S o so_far w
      pub words_then : fold set_bit (words w) ps ≡ with_set (words o) m f k
      pub stores_then : along (words w) so_far ps ≡ setting (words o) m f k

    pub begins : (o : W) (m f k : ℕ) (ps : List ℕ) → ps ≡ ahead m (step m f) (f % m) k → Underway o m f k o ps
    begins o m f k ps e = record {
      as_long = refl;
      so_far = [];
      stored = new;
      words_then = ap (fold set_bit (words o)) e ∙ with_from_first (words o) m f k;
      stores_then = ap (along (words o) []) e ∙ along_from_first (words o) m f k;
    }

    pub goes_on : (o w w' : W) (m f k p : ℕ) (qs ps : List ℕ) → qs ≡ p ∷ ps → Underway o m f k w qs → SetsBit S words p w w' → Underway o m f k w' ps
    unfolding along
    goes_on o w w' m f k p qs ps e v s =
        let u : Underway o m f k w (p ∷ ps) = subst (Underway o m f k w) e v in
        record {
          as_long = ap length s.words_set ∙ length-set_bit (words w) p ∙ u.as_long;
          so_far = if bit (words w) p then u.so_far else setting_bit (words w) p ∷ u.so_far;
          stored = joined (setting_bit (words w) p) u.stored (bit (words w) p) s.stored;
          words_then = ap (λ z. fold set_bit z ps) s.words_set ∙ u.words_then;
          stores_then = ap (λ z. along z (if bit (words w) p then u.so_far else setting_bit (words w) p ∷ u.so_far) ps) s.words_set ∙ u.stores_then;
        }

    pub ends : (o w : W) (m f k : ℕ) (qs : List ℕ) → qs ≡ [] → Underway o m f k w qs → Sets S words m f k o w
    unfolding along
    ends o w m f k qs e v =
        let u : Underway o m f k w [] = subst (Underway o m f k w) e v in
        record { words_set = u.words_then; stored = subst (λ xs. Stored S o xs w) u.stores_then u.stored }

-- zeros, and what follows them
zeros_then : (n : ℕ) (ys : List ℕ) → replicate n 0 ++ (0 ∷ ys) ≡ replicate (suc n) 0 ++ ys
zeros_then zero ys = refl
zeros_then (suc n) ys = ap (λ zs. 0 ∷ zs) (zeros_then n ys)

at_zeros : (n x : ℕ) (ys : List ℕ) → slice_index (replicate n 0 ++ (x ∷ ys)) n ≡ x
at_zeros zero x ys = refl
at_zeros (suc n) x ys = at_zeros n x ys

set_zeros : (n x y : ℕ) (ys : List ℕ) → set (replicate n 0 ++ (x ∷ ys)) n y ≡ replicate n 0 ++ (y ∷ ys)
set_zeros zero x y ys = refl
set_zeros (suc n) x y ys = ap (λ zs. 0 ∷ zs) (set_zeros n x y ys)

module _ {W : Type 0} (S : W → ℕ → ℕ → W → Type 0) (words : W → List ℕ) where
  pub none_cleared : (o : W) → Clears S words 0 o o
  unfolding clearing
  none_cleared o = record { words_zero = refl; stored = new }

  module _ (o w : W) (n : ℕ) (h : n < length (words o)) (c : Clears S words n o w) where
    split : words w ≡ replicate n 0 ++ (slice_index (words o) n ∷ drop (suc n) (words o))
    split = c.words_zero ∙ ap (λ zs. replicate n 0 ++ zs) (drop_more (words o) n 0 h ∙ ap (λ z. slice_index (words o) n ∷ drop z (words o)) (add-one n))

    as_it_was : slice_index (words w) n ≡ slice_index (words o) n
    as_it_was = ap (λ zs. slice_index zs n) split ∙ at_zeros n (slice_index (words o) n) (drop (suc n) (words o))

    pub zero_stands : slice_index (words w) n ≡ 0 → Clears S words (n + 1) o w
    unfolding clearing
    zero_stands z =
        subst (λ k. Clears S words k o w) (sym (add-one n))
        (let e : slice_index (words o) n ≡ 0 = sym as_it_was ∙ z in
        record {
          words_zero = split ∙ ap (λ x. replicate n 0 ++ (x ∷ drop (suc n) (words o))) e ∙ zeros_then n (drop (suc n) (words o));
          stored = subst (λ xs. Stored S o xs w) (sym (cond-true _ _ _ (eq-eqb _ 0 e))) c.stored;
        })

    pub zero_stored : (w' : W) → (slice_index (words w) n ≡ 0 → ⊥) → words w' ≡ slice_set (words w) n 0 → S w n 0 w' → Clears S words (n + 1) o w'
    unfolding clearing
    zero_stored w' d e s =
        subst (λ k. Clears S words k o w') (sym (add-one n)) (record {
          words_zero = e ∙ ap (λ zs. set zs n 0) split ∙ set_zeros n (slice_index (words o) n) 0 (drop (suc n) (words o)) ∙ zeros_then n (drop (suc n) (words o));
          stored = subst (λ xs. Stored S o xs w') (sym (cond-false _ _ _ (ne_eqb _ 0 (λ z. d (as_it_was ∙ z))))) (on c.stored s);
        })
