-- A listing filter tells in the order of first recording.
use Rattle.std.proofs.Common.{◌≡◌, ℕ, ◌-◌, ◌<◌, ◌≤◌, Bool, true, false, List, [], ◌∷◌, ◌++◌, length, is_ok, sym, ap, ◌∙◌, ⊎_elim, arith}
use Rattle.std.proofs.lemmas.Bool.{cases_Bool, cases_lt, cond-true, cond-false}
use Rattle.std.proofs.lemmas.List.{length_push}
use Rattle.answers.specs.Successions.Succession.{new, then}
use Rattle.filter.specs.Filter.{Meaning, Answer, Records, Emptied, Fresh}
use Rattle.filter.specs.Lists.{distinct}
use Rattle.filter.specs.Successions.{Call, Leads, accepted}
use Rattle.filter.specs.Successions.Call.{recording, emptying}
use Rattle.filter.specs.Orders.{Appends, Begins, ListsInOrder}

joins : (xs : List Call) (f : ℕ) (r : Answer) → is_ok r ≡ true → accepted (recording f r ∷ xs) ≡ accepted xs ++ f ∷ []
joins xs f r y = cond-true _ _ _ y

stays : (xs : List Call) (f : ℕ) (r : Answer) → is_ok r ≡ false → accepted (recording f r ∷ xs) ≡ accepted xs
stays xs f r n = cond-false _ _ _ n

module _ {S : Type 0} (m : S → Meaning) (lists : S → Bool) (l : S → List ℕ) (R : S → ℕ → Answer → S → Type 0) (E : S → S → Type 0)
    (recorded : (s s' : S) (f : ℕ) (r : Answer) → R s f r s' → Records f (m s) (m s') r) (emptied : (s s' : S) → E s s' → Emptied (m s) (m s'))
    (appends : (s s' : S) (f : ℕ) (r : Answer) → R s f r s' → Appends m lists l s f r s') (begins : (s s' : S) → E s s' → Begins lists l s') where
  while_listing : (start s : S) (xs : List Call) → l start ≡ [] → Leads R E start xs s → lists s ≡ true → l s ≡ accepted xs
  while_listing start s [] h new k = h
  while_listing start s (emptying ∷ xs) h (then {s' = t} w v) k = (begins t s v).none
  while_listing start s (recording f r ∷ xs) h (then {s' = t} w v) k =
      let a = appends t s f r v in
      ⊎_elim
      (λ y. let b = a.behind y k in b.1 ∙ ap (λ z. z ++ f ∷ []) (while_listing start t xs h w b.0) ∙ sym (joins xs f r y))
      (λ n. let b = a.same n in b.1 ∙ while_listing start t xs h w (sym b.0 ∙ k) ∙ sym (stays xs f r n))
      (cases_Bool (is_ok r))

  -- one more of a sure one
  one_more : (s s' : S) (xs : List Call) (f : ℕ) (r : Answer) → R s f r s' → is_ok r ≡ true → 0 < (m s).sure → l s ≡ accepted xs → l s' ≡ accepted (recording f r ∷ xs)
  one_more s s' xs f r v y some h =
      let a = appends s s' f r v in
      (a.behind y (a.sure y some)).1 ∙ ap (λ z. z ++ f ∷ []) h ∙ sym (joins xs f r y)

  pub while_sure : (start s : S) (xs : List Call) → l start ≡ [] → Leads R E start xs s → 0 < (m s).sure → l s ≡ accepted xs
  while_sure start s [] h new k = h
  while_sure start s (emptying ∷ xs) h (then {s' = t} w v) k = (begins t s v).none
  while_sure start s (recording f r ∷ xs) h (then {s' = t} w v) k =
      let a = recorded t s f r v in
      ⊎_elim
      (λ y.
      let q = a.recorded y in
      let some : 0 < (m t).sure = ⊎_elim (λ z. z) (λ z. absurd (let e = q.stays (omega arith) in omega arith)) (cases_lt 0 (m t).sure) in
      one_more t s xs f r v y some (while_sure start t xs h w some))
      (λ n.
      let e = (a.same n).sures in
      ((appends t s f r v).same n).1 ∙ while_sure start t xs h w (omega arith) ∙ sym (stays xs f r n))
      (cases_Bool (is_ok r))

  -- how many are sure, from a fresh one of the sure count c on
  counted : (c : ℕ) (start s : S) (xs : List Call) → Fresh c (m start) → Leads R E start xs s → ((m s).count ≡ c) × ((m s).sure ≡ c - length (accepted xs))
  counted c start s [] h new = (h.counts, omega (arith, h.sures))
  counted c start s (emptying ∷ xs) h (then {s' = t} w v) =
      let e = emptied t s v in
      let z = counted c start t xs h w in
      (e.counts ∙ z.0, omega (arith, e.sures, z.0))
  counted c start s (recording f r ∷ xs) h (then {s' = t} w v) =
      let z = counted c start t xs h w in
      let a = recorded t s f r v in
      ⊎_elim
      (λ y.
      let q = a.recorded y in
      let long = ap length (joins xs f r y) ∙ length_push (accepted xs) f in
      (q.counts ∙ z.0, ⊎_elim (λ some. (let e = q.lower some in omega (arith, z.1))) (λ none. (let e = q.stays (omega arith) in omega (arith, z.1))) (cases_lt 0 (m t).sure)))
      (λ n.
      let q = a.same n in
      let long = ap length (stays xs f r n) in
      (q.counts ∙ z.0, omega (arith, q.sures, z.1)))
      (cases_Bool (is_ok r))

  within : (c : ℕ) (start s : S) (xs : List Call) → l start ≡ [] → Leads R E start xs s → Fresh c (m start) → length (accepted xs) ≤ c → l s ≡ accepted xs
  within c start s [] h new o k = h
  within c start s (emptying ∷ xs) h (then {s' = t} w v) o k = (begins t s v).none
  within c start s (recording f r ∷ xs) h (then {s' = t} w v) o k =
      let z = (counted c start t xs o w).1 in
      ⊎_elim
      (λ y.
      let long = ap length (joins xs f r y) ∙ length_push (accepted xs) f in
      one_more t s xs f r v y (omega arith) (within c start t xs h w o (omega arith)))
      (λ n.
      let long = ap length (stays xs f r n) in
      ((appends t s f r v).same n).1 ∙ within c start t xs h w o (omega arith) ∙ sym (stays xs f r n))
      (cases_Bool (is_ok r))

  pub lists_in_order : ((s : S) → lists s ≡ false → l s ≡ []) → ((s : S) → distinct (l s) ≡ true) → ListsInOrder m lists l R E
  lists_in_order gone once start s xs h w = record {
    order = ⊎_elim (λ k. while_listing start s xs h w k ∙ sym (cond-true _ _ _ k)) (λ k. gone s k ∙ sym (cond-false _ _ _ k)) (cases_Bool (lists s));
    once = once s;
    sure = while_sure start s xs h w;
    all = λ c o k. within c start s xs h w o k;
  }
