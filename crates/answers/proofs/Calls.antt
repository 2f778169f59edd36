-- What the calls of a function that stays as it was made of an array or a slice.
use Rattle.std.proofs.Common.{◌≡◌, ℕ, zero, suc, ◌+◌, ◌<◌, ◌≤◌, List, map, length, Bor, Iter, sym, refl, ap, ◌∙◌, subst, inl, inr, arith, slice_index}
use Rattle.std.specs.Fn.{Called, Mut}
use Rattle.std.specs.Array.{IsFromFnResultFrom, IsFromFnResult, MapsFrom, IsMapOf}
use Rattle.std.specs.Iterator.{FoldsItems}
use Rattle.std.specs.List.{range_with_len, fold}
use Rattle.std.proofs.lemmas.Bool.{cases_eq}
use Rattle.std.proofs.lemmas.Fn.{fold_over, slice_gives, fronts}
use Rattle.std.proofs.lemmas.List.Sums.{fold_push}
use Rattle.std.proofs.lemmas.List.{ext_get_or, get_or-map, length-map}
use Rattle.std.proofs.lemmas.List.FromFn.{fill_by_all}

-- `array::from_fn`
module _ {F : Type 0} (g : Mut F (ℕ × Unit {0}) ℕ) (f : F) (h : ℕ → ℕ) where
  each : (n i : ℕ) (ys : List ℕ) → ((k y : ℕ) (q : F) → k < i + n → Called g f (k, tt) y q → (y ≡ h k) × (q ≡ f))
      → IsFromFnResultFrom g f ys i n → (k : ℕ) → i ≤ k → k < i + n → slice_index ys k ≡ h k
  each zero i ys s r k l u = absurd (omega arith)
  each (suc n) i ys s r k l u =
      let p : (r.1 ≡ h i) × (r.0 ≡ f) = s i r.1 r.0 (omega arith) r.3 in
      elim (cases_eq k i) [
        | inl e ↦ ap (λ (m : ℕ). slice_index ys m) e ∙ r.2.1 0 ∙ p.0 ∙ ap h (sym e)
        | inr e ↦
            each n (i + 1) ys (λ k y q v c. s k y q (omega (arith, v)) c)
            (subst (λ (q : F). IsFromFnResultFrom g q ys (i + 1) n) p.1 r.4) k (omega (arith, e)) (omega arith)
      ]

  pub made : (n : ℕ) (ys : List ℕ) → ((k y : ℕ) (q : F) → k < n → Called g f (k, tt) y q → (y ≡ h k) × (q ≡ f))
      → IsFromFnResult g f ys n → ys ≡ map h (range_with_len 0 n)
  made n ys s r = fill_by_all h ys n 0 r.long (λ k l. each n 0 ys (λ k y q u c. s k y q (omega (arith, u)) c) r.each k (omega arith) (omega arith))

-- an array's `map`
module _ {F : Type 0} (g : Mut F (ℕ × Unit {0}) ℕ) (f : F) (h : ℕ → ℕ) where
  mapped_each : (n i : ℕ) (xs ys : List ℕ) → ((x y : ℕ) (q : F) → Called g f (x, tt) y q → (y ≡ h x) × (q ≡ f))
      → MapsFrom g f xs ys i n → (k : ℕ) → i ≤ k → k < i + n → slice_index ys k ≡ h (slice_index xs k)
  mapped_each zero i xs ys s r k l u = absurd (omega arith)
  mapped_each (suc n) i xs ys s r k l u =
      let p : (r.2 ≡ h r.1) × (r.0 ≡ f) = s r.1 r.2 r.0 r.5 in
      elim (cases_eq k i) [
        | inl e ↦ ap (λ (m : ℕ). slice_index ys m) e ∙ r.4.1 0 ∙ p.0 ∙ ap h (sym (r.3.1 0) ∙ ap (λ (m : ℕ). slice_index xs m) (sym e))
        | inr e ↦
            mapped_each n (i + 1) xs ys s (subst (λ (q : F). MapsFrom g q xs ys (i + 1) n) p.1 r.6) k (omega (arith, e)) (omega arith)
      ]

  pub mapped : (n : ℕ) (xs ys : List ℕ) → length xs ≡ n → ((x y : ℕ) (q : F) → Called g f (x, tt) y q → (y ≡ h x) × (q ≡ f))
      → IsMapOf g f xs ys n → ys ≡ map h xs
  mapped n xs ys l s r =
      ext_get_or 0 ys (map h xs) (r.long ∙ sym (length-map xs h ∙ l))
      (λ k u. mapped_each n 0 xs ys s r.each k (omega arith) (omega (arith, r.long)) ∙ sym (get_or-map h xs k 0 0 (omega (arith, r.long))))

-- `fold` over a slice
module _ {F A B : Type 0} (g : Mut F (B × (Bor A × Unit {0})) B) (h : B → A → B) (f : F) where
  pub folds : ((a : B) (x : Bor A) (b : B) (f' : F) → Called g f (a, (x, tt)) b f' → (b ≡ h a x.now) × (f' ≡ f))
      → (s : Iter A) (a r : B) → FoldsItems fronts g s f a r → r ≡ fold h a s.rest.now
  folds k s a r ran =
      fold_over fronts (λ y. y.now) g (λ ys b. b ≡ fold h a ys) f
      (λ ys b x b' f' j e. let p = k b x b' f' e in (p.0 ∙ ap (λ u. h u x.now) j ∙ sym (fold_push h a ys x.now), p.1))
      s s.rest.now a r (slice_gives s) refl ran
