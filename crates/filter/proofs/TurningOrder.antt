-- A turning filter goes over in the order of first recording.
use Rattle.std.proofs.Common.{◌≡◌, ℕ, Bool, cond, List, [], ◌∷◌, ◌++◌, is_ok, sym, refl, ap, ◌∙◌, subst, arith}
use Rattle.answers.specs.Successions.Succession.{new, then}
use Rattle.filter.specs.declared.turning.Form.TheVariants.{Listing, Over}
use Rattle.filter.specs.declared.turning.TurningFilter.{TurningFilter}
use Rattle.filter.specs.Filter.{Meaning, Answer, Records, Emptied}
use Rattle.filter.specs.Successions.{Call, Leads, accepted}
use Rattle.filter.specs.Successions.Call.{recording, emptying}
use Rattle.filter.specs.Orders.{Appends, Begins, GoesOverInOrder}
use Rattle.filter.specs.Turning.{telling, Poured, Turns, Returns}
use Rattle.filter.specs.Turning.Turns.{over, goes, lists as recorded_listing}
use Rattle.filter.proofs.Ordering.{while_sure}

module _ {S B : Type 0} (m : S → Meaning) (lists : S → Bool) (l : S → List ℕ) (R : S → ℕ → Answer → S → Type 0) (E : S → S → Type 0)
    (Q : B → ℕ → Answer → B → Type 0) (D : B → B → Type 0)
    (recorded : (s s' : S) (f : ℕ) (r : Answer) → R s f r s' → Records f (m s) (m s') r) (emptied : (s s' : S) → E s s' → Emptied (m s) (m s'))
    (appends : (s s' : S) (f : ℕ) (r : Answer) → R s f r s' → Appends m lists l s f r s') (begins : (s s' : S) → E s s' → Begins lists l s') where
  -- a set that accepted xs, by calls of one that told nothing
  record Accepted (xs : List ℕ) (s : S) : Type 0 where
    start : S
    calls : List Call
    empty : l start ≡ []
    leads : Leads R E start calls s
    same : accepted calls ≡ xs

  begun : (s : S) → l s ≡ [] → Accepted [] s
  begun s h = record { start = s; calls = []; empty = h; leads = new; same = refl }

  recorded_on : (xs : List Call) (t t' : TurningFilter S B) (f : ℕ) (r : Answer) → (t.form ≡ Listing → Accepted (accepted xs) t.set)
      → Turns m l R Q D t f r t' → t'.form ≡ Listing → Accepted (accepted (recording f r ∷ xs)) t'.set
  recorded_on xs t t' f r h (over p q e w) k = absurd (let z : Listing ≡ Over = sym k ∙ q in cc)
  recorded_on xs t t' f r h (goes p one fresh q e ok b z w) k = absurd (let z : Listing ≡ Over = sym k ∙ q in cc)
  recorded_on xs t t' f r h (recorded_listing p o q e w) k =
      let a = h p in
      record {
        start = a.start;
        calls = recording f r ∷ a.calls;
        empty = a.empty;
        leads = then a.leads w;
        same = ap (λ (ys : List ℕ). cond (is_ok r) (ys ++ f ∷ []) ys) a.same;
      }

  has : (start t : TurningFilter S B) (xs : List Call) → telling l start ≡ [] → Leads (Turns m l R Q D) (Returns E) start xs t → t.form ≡ Listing
      → Accepted (accepted xs) t.set
  has start t [] h new p = begun t.set (rw p at h)
  has start t (emptying ∷ xs) h (then {s' = u} w v) p = begun t.set (begins u.set t.set v.set).none
  has start t (recording f r ∷ xs) h (then {s' = u} w v) p = recorded_on xs u t f r (λ k. has start u xs h w k) v p

  pub goes_over_in_order : GoesOverInOrder m l R E Q D
  goes_over_in_order start t t' xs f r h w v p q = poured v where
    poured : Turns m l R Q D t f r t' → (b : B) × D t.other b × Poured Q (accepted xs ++ f ∷ []) b t'.other
    poured (over o _ _ _) = absurd (let z : Listing ≡ Over = sym p ∙ o in cc)
    poured (recorded_listing _ _ o _ _) = absurd (let z : Listing ≡ Over = sym o ∙ q in cc)
    poured (goes _ one _ _ _ _ b z k) =
        let a = has start t xs h w p in
        let e = while_sure m lists l R E recorded emptied appends begins a.start t.set a.calls a.empty a.leads (omega arith) ∙ a.same in
        (b, z, subst (λ (ys : List ℕ). Poured Q (ys ++ f ∷ []) b t'.other) e k)
