-- A text is read pair by pair.
use Rattle.std.proofs.Common.{◌≡◌, ℕ, ◌≤◌, List, [], ◌∷◌, ◌++◌, ◌==◌, ◌<◌, true, false, is_some, length, drop, slice_index, Some, None, Option, sym, refl, ap, ◌∙◌, append-nil, arith}
use Rattle.std.proofs.lemmas.List.{append_assoc}
use Rattle.hex_text.specs.Digits.{digit_of, paired, followed, unhex}

-- what was read before what is left
abbrev pub before : List ℕ → Option (List ℕ) → Option (List ℕ)
before xs None = None
before xs (Some ys) = Some (xs ++ ys)

-- the next pair
next_pair : (t : List ℕ) → 2 ≤ length t → unhex t ≡ followed (paired (digit_of (slice_index t 0)) (digit_of (slice_index t 1))) (unhex (drop 2 t))
unfolding unhex
next_pair [] h = absurd (omega arith)
next_pair (a ∷ []) h = absurd (omega arith)
next_pair (a ∷ b ∷ rest) h = refl

added : (xs : List ℕ) (b : ℕ) (o : Option (List ℕ)) → before xs (followed (Some b) o) ≡ before (xs ++ (b ∷ [])) o
added xs b None = refl
added xs b (Some ys) = ap Some (sym (append_assoc xs (b ∷ []) ys))

module _ (t xs left : List ℕ) (inv : before xs (unhex left) ≡ unhex t) where
  pub read_more : (b : ℕ) → 2 ≤ length left → paired (digit_of (slice_index left 0)) (digit_of (slice_index left 1)) ≡ Some b → before (xs ++ (b ∷ [])) (unhex (drop 2 left)) ≡ unhex t
  read_more b h p =
      sym (added xs b (unhex (drop 2 left))) ∙ ap (λ (o : Option ℕ). before xs (followed o (unhex (drop 2 left)))) (sym p) ∙ ap (before xs) (sym (next_pair left h)) ∙ inv

  pub read_none : 2 ≤ length left → paired (digit_of (slice_index left 0)) (digit_of (slice_index left 1)) ≡ None → None ≡ unhex t
  read_none h p = ap (λ (o : Option ℕ). before xs (followed o (unhex (drop 2 left)))) (sym p) ∙ ap (before xs) (sym (next_pair left h)) ∙ inv

module _ (t xs : List ℕ) where
  pub read_all : (left : List ℕ) → length left < 2 → true ≡ is_some (unhex t) → before xs (unhex left) ≡ unhex t → Some xs ≡ unhex t
  unfolding unhex
  read_all [] h s inv = ap Some (sym (append-nil xs)) ∙ inv
  read_all (a ∷ []) h s inv = let f : true ≡ false = s ∙ ap is_some (sym inv) in let z : ◌≡◌ {A = ℕ} 0 1 = cc in absurd (omega arith)
  read_all (a ∷ b ∷ left) h s inv = absurd (omega arith)

-- whether a text writes bytes: that of what follows a pair of digits; none where two are no such pair, and the empty text does
paired_some : (p : Option ℕ) (o : Option (List ℕ)) → is_some p ≡ true → is_some o ≡ is_some (followed p o)
paired_some None o h = let z : ◌≡◌ {A = ℕ} 0 1 = cc in absurd (omega arith)
paired_some (Some b) None h = refl
paired_some (Some b) (Some bs) h = refl

paired_none : (p : Option ℕ) (o : Option (List ℕ)) → is_some p ≡ false → false ≡ is_some (followed p o)
paired_none None o h = refl
paired_none (Some b) o h = let z : ◌≡◌ {A = ℕ} 0 1 = cc in absurd (omega arith)

module _ (t : List ℕ) (h : 2 ≤ length t) where
  pub writes_rest : is_some (paired (digit_of (slice_index t 0)) (digit_of (slice_index t 1))) ≡ true → is_some (unhex (drop 2 t)) ≡ is_some (unhex t)
  writes_rest p = paired_some _ (unhex (drop 2 t)) p ∙ ap is_some (sym (next_pair t h))

  pub writes_none : is_some (paired (digit_of (slice_index t 0)) (digit_of (slice_index t 1))) ≡ false → false ≡ is_some (unhex t)
  writes_none p = paired_none _ (unhex (drop 2 t)) p ∙ ap is_some (sym (next_pair t h))

pub writes_end : (t : List ℕ) → length t < 2 → (length t == 0) ≡ is_some (unhex t)
unfolding unhex
writes_end [] h = refl
writes_end (a ∷ []) h = refl
writes_end (a ∷ b ∷ rest) h = absurd (omega arith)
