-- Filters that answer by the fingerprints they recorded since they were emptied.
use Rattle.std.proofs.Common.{◌≡◌, ℕ, ◌-◌, true, false, if◌then◌else◌, List, [], ◌∷◌, ◌++◌, length, is_ok, Err, vec_items, nat_eq, sym, ap, ap₂, ◌∙◌, subst, ⊎_elim, ◌⊎◌, inl, inr}
use Rattle.std.proofs.lemmas.Bool.{cases_Bool, cond-true, cond-false, or_left, or_right, or_from}
use Rattle.filter.specs.declared.exact.ExactSet.{ExactSet}
use Rattle.filter.specs.Filter.{Answer, reply, exact}
use Rattle.filter.specs.Sets.{set_means, SetRecords, SetEmpties}
use Rattle.filter.specs.Lists.{member}
use Rattle.filter.specs.Histories.{Says, recorded_with, set_says, Since, AnswersBy}
use Rattle.filter.specs.Histories.Since.{emptied, emptied_again, recorded}

-- where `Has s xs` says that s recorded xs since it was emptied: by these accounts of recording and emptying, it answers
-- so, and then has recorded the next list; emptied, it has recorded none
pub record GoesBy {F : Type 0} (R : F → ℕ → Answer → F → Type 0) (E : F → F → Type 0) (says : Says) (Has : F → List ℕ → Type 0) : Type 0 where
  pub recorded : (s s' : F) (xs : List ℕ) (f : ℕ) (r : Answer) → Has s xs → R s f r s' → (r ≡ says xs f) × Has s' (recorded_with says xs f)
  pub emptied : (s s' : F) (xs : List ℕ) → Has s xs → E s s' → Has s' []

-- by the answer, the list after it
pub joined : (says : Says) (xs : List ℕ) (f : ℕ) → is_ok (says xs f) ≡ true → recorded_with says xs f ≡ xs ++ f ∷ []
joined says xs f h = cond-true _ _ _ h

pub kept : (says : Says) (xs : List ℕ) (f : ℕ) → is_ok (says xs f) ≡ false → recorded_with says xs f ≡ xs
kept says xs f h = cond-false _ _ _ h

-- two rules that answer f alike make the same list
pub same_list : (a b : Says) (xs : List ℕ) (f : ℕ) → a xs f ≡ b xs f → recorded_with a xs f ≡ recorded_with b xs f
same_list a b xs f h = ap (λ (r : Answer). if is_ok r then xs ++ f ∷ [] else xs) h

-- one account and the other
module _ {F : Type 0} (R : F → ℕ → Answer → F → Type 0) (E : F → F → Type 0) (says : Says) where
  pub answers_by : (Has : F → List ℕ → Type 0) → GoesBy R E says Has → (o : F) → ((s : F) → E o s → Has s []) → AnswersBy R E says o
  answers_by Has goes o first xs s s' f r w v = (goes.recorded s s' xs f r (has xs s w) v).0 where
    has : (xs : List ℕ) (s : F) → Since R E o xs s → Has s xs
    has xs s (emptied w) = first s w
    has xs s (emptied_again {xs = ys} {s = t} w v) = goes.emptied t s ys (has ys t w) v
    has xs s (recorded {xs = ys} {f = f} {r = r} {s = t} w v) =
        let g = goes.recorded t s ys f r (has ys t w) v in
        subst (λ (zs : List ℕ). Has s zs) (ap (λ (z : Answer). if is_ok z then ys ++ f ∷ [] else ys) (sym g.0)) g.1

  pub joins : (o s s' : F) (xs : List ℕ) (f : ℕ) (r : Answer) → r ≡ says xs f → Since R E o xs s → R s f r s' → Since R E o (recorded_with says xs f) s'
  joins o s s' xs f r e w v =
      subst (λ (zs : List ℕ). Since R E o zs s') (ap (λ (z : Answer). if is_ok z then xs ++ f ∷ [] else xs) e) (recorded w v)

  -- of two filters that may stand in each other's place
  pub from_answers : (one two : F) → AnswersBy R E says one → AnswersBy R E says two → GoesBy R E says (λ s xs. Since R E one xs s ⊎ Since R E two xs s)
  from_answers one two a b = record {
    recorded = λ s s' xs f r h v. on s s' xs f r h v;
    emptied = λ s s' xs h v. ⊎_elim (λ w. inl (emptied_again w v)) (λ w. inr (emptied_again w v)) h;
  } where
    on : (s s' : F) (xs : List ℕ) (f : ℕ) (r : Answer) → Since R E one xs s ⊎ Since R E two xs s → R s f r s'
        → (r ≡ says xs f) × (Since R E one (recorded_with says xs f) s' ⊎ Since R E two (recorded_with says xs f) s')
    on s s' xs f r (inl w) v = let e = a xs s s' f r w v in (e, inl (joins one s s' xs f r e w v))
    on s s' xs f r (inr w) v = let e = b xs s s' f r w v in (e, inr (joins two s s' xs f r e w v))

-- the exact set
pub record SetHas (c : ℕ) (s : ExactSet) (xs : List ℕ) : Type 0 where
  pub capacity : s.capacity ≡ c
  pub held : vec_items s.held ≡ xs

set_answers : (xs : List ℕ) (c f : ℕ) → reply (exact xs c) f ≡ set_says c xs f
set_answers xs c f =
    ⊎_elim
    (λ y. cond-true _ _ _ (or_left _ _ y) ∙ ap Err (cond-true _ _ _ y) ∙ sym (cond-true _ _ _ y))
    (λ n. ⊎_elim
    (λ e. cond-true _ _ _ (or_right _ _ e) ∙ ap Err (cond-false _ _ _ n) ∙ sym (cond-false _ _ _ n ∙ cond-true _ _ _ e))
    (λ o. cond-false _ _ _ (or_from _ _ n o) ∙ sym (cond-false _ _ _ n ∙ cond-false _ _ _ o))
    (cases_Bool (nat_eq (length xs) c)))
    (cases_Bool (member f xs))

pub set_goes : (c : ℕ) → GoesBy SetRecords SetEmpties (set_says c) (SetHas c)
set_goes c = record {
  recorded = λ s s' xs f r h w.
      let a : r ≡ set_says c xs f = w.answer ∙ rw (h.capacity, h.held) (set_answers xs c f) in (
        a,
        record {
          capacity = w.capacity ∙ h.capacity;
          held = w.held ∙ ap₂ (λ (z : Answer) (ys : List ℕ). if is_ok z then ys ++ f ∷ [] else ys) a h.held;
        },
      );
  emptied = λ s s' xs h w. record { capacity = w.capacity ∙ h.capacity; held = w.held };
}

-- what it lists, and how many are sure
pub set_lists : (c : ℕ) (s : ExactSet) (xs : List ℕ) → SetHas c s xs → (vec_items s.held ≡ xs) × ((set_means s).sure ≡ c - length xs)
set_lists c s xs h = (h.held, ap₂ (λ (k : ℕ) (ys : List ℕ). k - length ys) h.capacity h.held)

pub set_answers_by : (s : ExactSet) → AnswersBy SetRecords SetEmpties (set_says s.capacity) s
set_answers_by o =
    answers_by SetRecords SetEmpties (set_says o.capacity) (SetHas o.capacity) (set_goes o.capacity) o
    (λ s w. record { capacity = w.capacity; held = w.held })
