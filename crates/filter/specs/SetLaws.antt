-- Lemmas on what a set means before and after a call: what its `impl` owes the interface. (They stand here and not among the
-- proofs, as an `impl` cites only what stands here.)
use Rattle.std.proofs.Common.{◌≡◌, ℕ, ◌<◌, ◌≤◌, Bool, true, false, ◌||◌, nat_eq, cond, List, [], ◌∷◌, ◌++◌, length, is_ok, Ok, Err, vec_items, sym, refl, ap, ◌∙◌, subst, ⊎_elim, arith}
use Rattle.std.proofs.lemmas.Bool.{false≢true, eq-eqb, ne_eqb, eqb-false, or_cases, or_parts, or_left, or_right, cond-true, cond-false}
use Rattle.std.proofs.lemmas.List.{length_push}
use Rattle.answers.specs.declared.FilterCause.{FilterCause}
use Rattle.filter.specs.declared.exact.ExactSet.{ExactSet}
use Rattle.filter.specs.Filter.{Meaning, Answer, Same, Recorded, Records, Emptied, exact, reply}
use Rattle.filter.specs.Lists.{member}
use Rattle.filter.specs.Orders.{Appends, Begins}
use Rattle.filter.specs.Sets.{set_means, SetRecords, SetEmpties}

or_swap : (a b c : Bool) → (a || (b || c)) ≡ (b || (a || c))
or_swap true true c = refl
or_swap true false c = refl
or_swap false b c = refl

pub member_push : (xs : List ℕ) (f g : ℕ) → member g (xs ++ f ∷ []) ≡ (nat_eq f g || member g xs)
member_push [] f g = refl
member_push (x ∷ xs) f g = ap (λ b. nat_eq x g || b) (member_push xs f g) ∙ or_swap (nat_eq x g) (nat_eq f g) (member g xs)

pub same : (m : Meaning) → Same m m
same m = record { refused = λ _. refl; causes = λ _. refl; sures = refl; counts = refl }

pub not_full : (n c : ℕ) → n < c → nat_eq n c ≡ false
not_full n c h = ne_eqb n c (λ e. omega arith)

or_false : (a b : Bool) → ((a || b) || false) ≡ (a || (b || false))
or_false true b = refl
or_false false b = refl

-- the answers of a set that holds xs in c places
module _ (xs : List ℕ) (c f : ℕ) where
  pub recorded_push : member f xs ≡ false → length xs < c → Recorded f (exact xs c) (exact (xs ++ f ∷ []) c)
  recorded_push n h =
      let l = length_push xs f in
      let m = member_push xs f in
      let e = not_full (length xs) c h in
      record {
        now = or_left _ _ (m f ∙ or_left _ _ (eq-eqb f f refl));
        kept = λ g k. or_left _ _ (m g ∙ or_right _ _ (⊎_elim (λ a. a) (λ a. absurd (false≢true (sym e ∙ a))) (or_cases _ _ k)));
        lower = λ k. omega arith;
        only = λ k g. let d = not_full (length (xs ++ f ∷ [])) c (omega arith) in rw (m g, d, e) (or_false (nat_eq f g) (member g xs));
        stays = λ k. omega arith;
        counts = refl;
      }

pub emptied_set : (xs ys : List ℕ) (c : ℕ) → 0 < c → ys ≡ [] → Emptied (exact xs c) (exact ys c)
emptied_set xs ys c h e = rw e (record { none = λ g. not_full 0 c h; sures = omega arith; counts = refl })

accepts_by : (b : Bool) (k : FilterCause) (r : Answer) → r ≡ cond b (Err k) (Ok tt) → is_ok r ≡ true → b ≡ false
accepts_by true k r e h = absurd (false≢true (sym (ap is_ok e) ∙ h))
accepts_by false k r e h = refl

-- what is accepted was not refused
pub accepts : (m : Meaning) (f : ℕ) (r : Answer) → r ≡ reply m f → is_ok r ≡ true → m.refuses f ≡ false
accepts m f r e h = accepts_by (m.refuses f) (m.cause f) r e h

-- a set that holds xs in c places, and ys after an answer
module _ (xs ys : List ℕ) (c f : ℕ) (r : Answer) (within : length xs ≤ c) (answer : r ≡ reply (exact xs c) f) (held : ys ≡ cond (is_ok r) (xs ++ f ∷ []) xs) where
  pub records_set : Records f (exact xs c) (exact ys c) r
  records_set = record {
    answer = answer;
    same = λ n. rw (held ∙ cond-false _ _ _ n) (same (exact xs c));
    recorded = λ y.
        let free = or_parts _ _ (accepts (exact xs c) f r answer y) in
        let room : length xs < c = omega (arith, eqb-false (length xs) c free.1) in
        rw (held ∙ cond-true _ _ _ y) (recorded_push xs c f free.0 room);
  }

pub set_recorded : (s s' : ExactSet) (f : ℕ) (r : Answer) → SetRecords s f r s' → Records f (set_means s) (set_means s') r
set_recorded s s' f r w =
    let within : length (vec_items s.held) ≤ s.capacity = omega (arith, s.within, s.held.ok.0) in
    let P : ℕ → Type 0 = λ c. Records f (set_means s) (exact (vec_items s'.held) c) r in
    subst P (sym w.capacity) (records_set (vec_items s.held) (vec_items s'.held) s.capacity f r within w.answer w.held)

pub set_emptied : (s s' : ExactSet) → SetEmpties s s' → Emptied (set_means s) (set_means s')
set_emptied s s' w =
    let P : ℕ → Type 0 = λ c. Emptied (set_means s) (exact (vec_items s'.held) c) in
    subst P (sym w.capacity) (emptied_set (vec_items s.held) (vec_items s'.held) s.capacity s.some w.held)

-- what always lists, and puts each accepted fingerprint behind the others
pub appended : {S : Type 0} (m : S → Meaning) (l : S → List ℕ) (s s' : S) (f : ℕ) (r : Answer) → l s' ≡ cond (is_ok r) (l s ++ f ∷ []) (l s)
    → Appends m (λ _. true) l s f r s'
appended m l s s' f r h = record {
  same = λ n. (refl, h ∙ cond-false _ _ _ n);
  behind = λ y _. (refl, h ∙ cond-true _ _ _ y);
  sure = λ _ _. refl;
}

pub set_appends : (s s' : ExactSet) (f : ℕ) (r : Answer) → SetRecords s f r s' → Appends set_means (λ _. true) (λ s. vec_items s.held) s f r s'
set_appends s s' f r w = appended set_means (λ s. vec_items s.held) s s' f r w.held

pub set_begins : (s s' : ExactSet) → SetEmpties s s' → Begins (λ _. true) (λ s. vec_items s.held) s'
set_begins s s' w = record { on = refl; none = w.held }
