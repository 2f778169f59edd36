-- What a table remembers after a succession of calls: the different tokens that were given.
use Rattle.std.proofs.Common.{◌≡◌, ℕ, suc, ◌+◌, ◌≤◌, Bool, true, false, not, cond, ◌&&◌, ◌||◌, nat_eq, nat_le, List, [], ◌∷◌, ◌++◌, length, Ok, Err, Result, sym, refl, ap, ◌∙◌, subst, ⊎_elim, arith, length-append}
use Rattle.std.specs.Str.{bytes_eq}
use Rattle.std.proofs.lemmas.Bool.{cond-true, cond-false, cases_Bool, and_right, leb-true, leb-false, eq-eqb, ne_eqb}
use Rattle.std.proofs.lemmas.Slice.Eq.{bytes_eq-Decides}
use Rattle.answers.specs.declared.Refusal.{Refusal}
use Rattle.answers.specs.declared.Refusal.TheVariants.{ResetTableFull}
use Rattle.answers.specs.Successions.{Succession, Each}
use Rattle.answers.specs.Successions.Succession.{new, then}
use Rattle.stateless_reset.specs.Tables.{Table, fresh, has, last_of, Remembers, remember_answer}
use Rattle.stateless_reset.specs.Laws.{Call, Step, given, different, ToldByGivenTokens, RefusedAtItsPlaces}
use Rattle.stateless_reset.specs.Laws.Call.{remembering, asking}

or_false : (b : Bool) → b ≡ (b || false)
or_false true = refl
or_false false = refl

or_swap : (a b : Bool) → (a || (b || false)) ≡ ((b && true) || a)
or_swap true true = refl
or_swap true false = refl
or_swap false true = refl
or_swap false false = refl

pub has_push : (ts : List (List ℕ)) (t : List ℕ) (bs : List ℕ) → has (ts ++ t ∷ []) bs ≡ ((bytes_eq t bs && true) || has ts bs)
has_push ts t bs = appended ts ∙ or_swap (has ts bs) (bytes_eq t bs)
  where
    or_assoc : (a b c : Bool) → (a || (b || c)) ≡ ((a || b) || c)
    or_assoc true b c = refl
    or_assoc false b c = refl

    appended : (us : List (List ℕ)) → has (us ++ t ∷ []) bs ≡ (has us bs || (bytes_eq t bs || false))
    appended [] = refl
    appended (u ∷ us) = ap (λ b. bytes_eq u bs || b) (appended us) ∙ or_assoc (bytes_eq u bs) (has us bs) (bytes_eq t bs || false)

-- a table after calls from a new one with so many places
pub record After (places : ℕ) (xs : List Call) (s : Table) : Type 0 where
  pub size : s.places ≡ places
  pub holds : (bs : List ℕ) → has s.tokens bs ≡ given bs xs
  pub count : length s.tokens ≡ different xs
  pub within : length s.tokens ≤ places

module _ (places : ℕ) (xs : List Call) (s : Table) (m : After places xs s) (t : List ℕ) where
  again : has s.tokens t ≡ true → After places (remembering t (Ok tt) ∷ xs) s
  again h = record {
    size = m.size;
    holds = λ bs. ⊎_elim
        (λ e. ap (has s.tokens) (sym ((bytes_eq-Decides t bs).0 e)) ∙ h ∙ sym (ap (λ b. (b && true) || given bs xs) e))
        (λ e. m.holds bs ∙ sym (ap (λ b. (b && true) || given bs xs) e))
        (cases_Bool (bytes_eq t bs));
    count = m.count ∙ sym (cond-true _ _ _ (sym (m.holds t) ∙ h));
    within = m.within;
  }

  refused : After places (remembering t (Err ResetTableFull) ∷ xs) s
  refused = record {
    size = m.size;
    holds = λ bs. m.holds bs ∙ sym (ap (λ b. b || given bs xs) (and_right (bytes_eq t bs) false refl));
    count = m.count;
    within = m.within;
  }

  added : has s.tokens t ≡ false → nat_le s.places (length s.tokens) ≡ false
      → After places (remembering t (Ok tt) ∷ xs) (record { places = s.places; tokens = s.tokens ++ t ∷ [] })
  added h room =
      let l : length (s.tokens ++ t ∷ []) ≡ length s.tokens + 1 = length-append s.tokens (t ∷ []) in
      let r = leb-false _ _ room in
      let p = m.size in
      record {
        size = m.size;
        holds = λ bs. has_push s.tokens t bs ∙ ap (λ b. (bytes_eq t bs && true) || b) (m.holds bs);
        count = l ∙ (let c = m.count in let n : length s.tokens + 1 ≡ suc (different xs) = omega arith in n) ∙ sym (cond-false _ _ _ (sym (m.holds t) ∙ h));
        within = omega arith;
      }

  -- what the call answers and leaves, by what was given before
  pub answered : remember_answer t s ≡ cond (not (given t xs) && nat_eq (different xs) places) (Err ResetTableFull) (Ok tt)
  answered = ⊎_elim
      (λ h. cond-true _ _ _ h ∙ sym (cond-false _ _ _ (ap (λ b. not b && nat_eq (different xs) places) (sym (m.holds t) ∙ h))))
      (λ h.
      let g : given t xs ≡ false = sym (m.holds t) ∙ h in
      let c = m.count in
      let w = m.within in
      let p = m.size in
      cond-false _ _ _ h ∙ ⊎_elim
      (λ f.
      let b = leb-true _ _ f in
      let e : different xs ≡ places = omega arith in
      cond-true _ _ _ f ∙ sym (cond-true _ _ _ (ap (λ b. not b && nat_eq (different xs) places) g ∙ eq-eqb _ _ e)))
      (λ f.
      let b = leb-false _ _ f in
      let e : different xs ≡ places → ⊥ = λ q. omega arith in
      cond-false _ _ _ f ∙ sym (cond-false _ _ _ (ap (λ b. not b && nat_eq (different xs) places) g ∙ ne_eqb _ _ e)))
      (cases_Bool (nat_le s.places (length s.tokens))))
      (cases_Bool (has s.tokens t))

  step : {a a' : Result (Unit {0}) Refusal} {u u' : Table} → a ≡ a' → u ≡ u' → After places (remembering t a' ∷ xs) u' → After places (remembering t a ∷ xs) u
  step {a = a} {a' = a'} {u' = u'} p q k = subst (After places (remembering t a ∷ xs)) {x = u'} (sym q) (subst (λ r. After places (remembering t r ∷ xs) u') {x = a'} (sym p) k)

  pub remembers : (s' : Table) (r : Result (Unit {0}) Refusal) → Remembers t s s' r → After places (remembering t r ∷ xs) s'
  remembers s' r w =
      step w.answer w.after (⊎_elim
      (λ h. step (cond-true _ _ _ h) (cond-true _ _ _ h) (again h))
      (λ h. ⊎_elim
      (λ f. step (cond-false _ _ _ h ∙ cond-true _ _ _ f) (cond-false _ _ _ h ∙ cond-true _ _ _ f) refused)
      (λ f. step (cond-false _ _ _ h ∙ cond-false _ _ _ f) (cond-false _ _ _ h ∙ cond-false _ _ _ f) (added h f))
      (cases_Bool (nat_le s.places (length s.tokens))))
      (cases_Bool (has s.tokens t)))

pub after : (places : ℕ) (xs : List Call) (s : Table) → Succession Step (fresh places) xs s → After places xs s
after places xs s new = record { size = refl; holds = λ bs. refl; count = refl; within = omega arith }
after places (remembering t r ∷ xs) s (then {s' = s'} w v) = remembers places xs s' (after places xs s' w) t s r v
after places (asking d b ∷ xs) s (then {s' = s'} w v) =
    let m = after places xs s' w in
    subst (After places (asking d b ∷ xs)) (sym v.1) (record { size = m.size; holds = m.holds; count = m.count; within = m.within })

-- each question and each token is answered by what was given before
pub told : (places : ℕ) (s : Table) (xs : List Call) → Succession Step (fresh places) xs s → Each (ToldByGivenTokens places) xs
told places s xs new = tt
told places s (remembering t r ∷ xs) (then {s' = s'} w v) = (tt, told places s' xs w)
told places s (asking d b ∷ xs) (then {s' = s'} w v) = (
  v.0 ∙ ap (λ h. nat_le 21 (length d) && h) ((after places xs s' w).holds (last_of d)),
  told places s' xs w,
)

pub refused_at_places : (places : ℕ) (s : Table) (xs : List Call) → Succession Step (fresh places) xs s → Each (RefusedAtItsPlaces places) xs
refused_at_places places s xs new = tt
refused_at_places places s (remembering t r ∷ xs) (then {s' = s'} w v) = (
  v.answer ∙ answered places xs s' (after places xs s' w) t,
  refused_at_places places s' xs w,
)
refused_at_places places s (asking d b ∷ xs) (then {s' = s'} w v) = (tt, refused_at_places places s' xs w)
