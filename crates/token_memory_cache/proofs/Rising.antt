-- Lists along which a number rises.
use Rattle.std.proofs.Common.{◌≡◌, ℕ, zero, suc, ◌+◌, ◌<◌, List, [], ◌∷◌, ◌++◌, take, drop, refl, ap, sym, subst, arith}
use Rattle.std.specs.List.{AllByRecursion}
use Rattle.record_pool.specs.Chains.{without as cut}

abbrev pub Rising : {X : Type 0} → (X → ℕ) → List X → Type 0
Rising f [] = Unit {0}
Rising f (x ∷ xs) = AllByRecursion (λ y. f x < f y) xs × Rising f xs

module _ {X : Type 0} where
  pub all_of : (P : X → Type 0) → ((x : X) → P x) → (xs : List X) → AllByRecursion P xs
  all_of P h [] = tt
  all_of P h (x ∷ xs) = (h x, all_of P h xs)

  pub all_as : (P Q : X → Type 0) → ((x : X) → P x → Q x) → (xs : List X) → AllByRecursion P xs → AllByRecursion Q xs
  all_as P Q h [] p = tt
  all_as P Q h (x ∷ xs) p = (h x p.0, all_as P Q h xs p.1)

  all_both : (P Q R : X → Type 0) → ((x : X) → P x → Q x → R x) → (xs : List X) → AllByRecursion P xs → AllByRecursion Q xs → AllByRecursion R xs
  all_both P Q R h [] p q = tt
  all_both P Q R h (x ∷ xs) p q = (h x p.0 q.0, all_both P Q R h xs p.1 q.1)

  all_push : (P : X → Type 0) (xs : List X) (y : X) → AllByRecursion P xs → P y → AllByRecursion P (xs ++ y ∷ [])
  all_push P [] y p h = (h, tt)
  all_push P (x ∷ xs) y p h = (p.0, all_push P xs y p.1 h)

  -- the same along a number that is equal on the list
  pub rising_as : (f g : X → ℕ) (xs : List X) → AllByRecursion (λ x. f x ≡ g x) xs → Rising f xs → Rising g xs
  rising_as f g [] e r = tt
  rising_as f g (x ∷ xs) e r =
      let more : (y : X) → f y ≡ g y → f x < f y → g x < g y = λ y a b. omega (arith, e.0) in
      (all_both (λ y. f y ≡ g y) (λ y. f x < f y) (λ y. g x < g y) more xs e.1 r.0, rising_as f g xs e.1 r.1)

  pub rising_push : (f : X → ℕ) (xs : List X) (y : X) → Rising f xs → AllByRecursion (λ x. f x < f y) xs → Rising f (xs ++ y ∷ [])
  rising_push f [] y r a = (tt, tt)
  rising_push f (x ∷ xs) y r a = (all_push (λ z. f x < f z) xs y r.0 a.0, rising_push f xs y r.1 a.1)

  pub rising-drop : (f : X → ℕ) (xs : List X) → Rising f xs → Rising f (drop 1 xs)
  rising-drop f [] r = tt
  rising-drop f (x ∷ xs) r = r.1

  -- without one element
  pub cut-later : (x : X) (k : ℕ) (xs : List X) → cut (suc k) (x ∷ xs) ≡ x ∷ cut k xs
  cut-later x k xs = let next : suc k + 1 ≡ suc (k + 1) = omega arith in ap (λ j. (x ∷ take k xs) ++ drop j (x ∷ xs)) next

  cut-none : (k : ℕ) → cut {X = X} k [] ≡ []
  cut-none zero = refl
  cut-none (suc k) = drop-none (suc k + 1)
    where
      drop-none : (k : ℕ) → drop {A = X} k [] ≡ []
      drop-none zero = refl
      drop-none (suc k) = refl

  all-cut : (P : X → Type 0) (k : ℕ) (xs : List X) → AllByRecursion P xs → AllByRecursion P (cut k xs)
  all-cut P k [] p = subst (AllByRecursion P) (sym (cut-none k)) tt
  all-cut P zero (x ∷ xs) p = p.1
  all-cut P (suc k) (x ∷ xs) p = subst (AllByRecursion P) (sym (cut-later x k xs)) (p.0, all-cut P k xs p.1)

  pub rising-cut : (f : X → ℕ) (k : ℕ) (xs : List X) → Rising f xs → Rising f (cut k xs)
  rising-cut f k [] r = subst (Rising f) (sym (cut-none k)) tt
  rising-cut f zero (x ∷ xs) r = r.1
  rising-cut f (suc k) (x ∷ xs) r = subst (Rising f) (sym (cut-later x k xs)) (all-cut (λ y. f x < f y) k xs r.0, rising-cut f k xs r.1)
