-- Lemmas on what a turning filter means before and after a call: what its `impl` owes the interface.
use Rattle.std.proofs.Common.{◌≡◌, ℕ, ◌-◌, ◌<◌, Bool, true, false, List, [], ◌∷◌, ◌++◌, is_ok, Ok, sym, refl, ap, ◌∙◌, ⊎_elim, arith}
use Rattle.std.proofs.lemmas.Bool.{false≢true, true≢false, eqb-true, eq-eqb, or_cases, or_left, or_right, cases_Bool, cases_lt, cond-true, cond-false}
use Rattle.filter.specs.declared.turning.Form.{Form}
use Rattle.filter.specs.declared.turning.Form.TheVariants.{Listing, Over}
use Rattle.filter.specs.declared.turning.TurningFilter.{TurningFilter}
use Rattle.filter.specs.Filter.{Meaning, Answer, Records, Emptied}
use Rattle.filter.specs.Lists.{member}
use Rattle.filter.specs.Turning.{Poured, in_form, turned, telling, listing, Turns, Returns}
use Rattle.filter.specs.Turning.Turns.{over, goes, lists}
use Rattle.filter.specs.Orders.{Appends, Begins}
use Rattle.filter.specs.SetLaws.{member_push}

-- one record, whatever was answered: the fingerprint is refused now, and none was freed
module _ (f : ℕ) (m m' : Meaning) (r : Answer) (h : Records f m m' r) where
  was_refused : m.refuses f ≡ true → is_ok r ≡ false
  was_refused e = ap is_ok (h.answer ∙ cond-true _ _ _ e)

  was_taken : m.refuses f ≡ false → is_ok r ≡ true
  was_taken e = ap is_ok (h.answer ∙ cond-false _ _ _ e)

  pub refused_now : m'.refuses f ≡ true
  refused_now = ⊎_elim (λ e. (h.same (was_refused e)).refused f ∙ e) (λ e. (h.recorded (was_taken e)).now) (cases_Bool (m.refuses f))

  pub refused_still : (g : ℕ) → m.refuses g ≡ true → m'.refuses g ≡ true
  refused_still g k = ⊎_elim (λ e. (h.same (was_refused e)).refused g ∙ k) (λ e. (h.recorded (was_taken e)).kept g k) (cases_Bool (m.refuses f))

-- a filter that is gone over: what the other one does
over_means : (f : ℕ) (s b b' : Meaning) (r : Answer) → Records f b b' r → Records f (in_form Over s b) (in_form Over s b') r
over_means f s b b' r w = record {
  answer = w.answer;
  same = λ n. let q = w.same n in record { refused = q.refused; causes = q.causes; sures = refl; counts = refl };
  recorded = λ y. let q = w.recorded y in record {
    now = q.now;
    kept = q.kept;
    lower = λ k. absurd (omega arith);
    only = λ k. absurd (omega arith);
    stays = λ _. refl;
    counts = refl;
  };
}

-- one that lists: what the set does, with one place kept back
lists_means : (f : ℕ) (s s' b b' : Meaning) (r : Answer) → Records f s s' r → Records f (in_form Listing s b) (in_form Listing s' b') r
lists_means f s s' b b' r w = record {
  answer = w.answer;
  same = λ n. let q = w.same n in record { refused = q.refused; causes = q.causes; sures = ap (λ z. z - 1) q.sures; counts = ap (λ z. z - 1) q.counts };
  recorded = λ y. let q = w.recorded y in record {
    now = q.now;
    kept = q.kept;
    lower = λ k. omega (arith, q.lower (omega arith));
    only = λ k. q.only (omega arith);
    stays = λ k. ⊎_elim (λ z. omega (arith, q.lower z)) (λ z. omega (arith, q.stays (omega arith))) (cases_lt 0 s.sure);
    counts = ap (λ z. z - 1) q.counts;
  };
}

counted : (o : Form) (s b : Meaning) → (in_form o s b).count ≡ s.count - 1
counted Listing s b = refl
counted Over s b = refl

-- the turning filter has the meaning of a filter, by those of its two filters
module _ {S B : Type 0} (m : S → Meaning) (l : S → List ℕ) (R : S → ℕ → Answer → S → Type 0) (n : B → Meaning) (Q : B → ℕ → Answer → B → Type 0) (E : B → B → Type 0)
    (set : (s s' : S) (f : ℕ) (r : Answer) → R s f r s' → Records f (m s) (m s') r) (other : (b b' : B) (f : ℕ) (r : Answer) → Q b f r b' → Records f (n b) (n b') r)
    (just : (s : S) → 0 < (m s).sure → (f : ℕ) → (m s).refuses f ≡ member f (l s)) where
  poured_still : (fs : List ℕ) (b b' : B) → Poured Q fs b b' → (g : ℕ) → (n b).refuses g ≡ true → (n b').refuses g ≡ true
  poured_still [] b b' p g k = ap (λ z. (n z).refuses g) p ∙ k
  poured_still (f ∷ fs) b b'' (b', (r, h), p) g k = poured_still fs b' b'' p g (refused_still f (n b) (n b') r (other b b' f r h) g k)

  poured_each : (fs : List ℕ) (b b' : B) → Poured Q fs b b' → (g : ℕ) → member g fs ≡ true → (n b').refuses g ≡ true
  poured_each [] b b' p g k = absurd (false≢true k)
  poured_each (f ∷ fs) b b'' (b', (r, h), p) g k =
      ⊎_elim
      (λ e. poured_still fs b' b'' p g (ap (n b').refuses (sym (eqb-true f g e)) ∙ refused_now f (n b) (n b') r (other b b' f r h)))
      (λ e. poured_each fs b' b'' p g e)
      (or_cases _ _ k)

  -- going over with one sure place left: what was listed, and the new one, is refused now
  went_over : (s : S) (o : Meaning) (b b' : B) (f : ℕ) → (m s).sure ≡ 1 → member f (l s) ≡ false → Poured Q (l s ++ f ∷ []) b b'
      → Records f (in_form Listing (m s) o) (in_form Over (m s) (n b')) (Ok tt)
  went_over s o b b' f one new p =
      let exactly = just s (omega arith) in
      record {
        answer = sym (cond-false _ _ _ (exactly f ∙ new));
        same = λ k. absurd (true≢false k);
        recorded = λ _. record {
          now = poured_each (l s ++ f ∷ []) b b' p f (member_push (l s) f f ∙ or_left _ _ (eq-eqb f f refl));
          kept = λ g k. poured_each (l s ++ f ∷ []) b b' p g (member_push (l s) f g ∙ or_right _ _ (sym (exactly g) ∙ k));
          lower = λ k. absurd (omega arith);
          only = λ k. absurd (omega arith);
          stays = λ k. refl;
          counts = refl;
        };
      }

  pub turns_mean : (t t' : TurningFilter S B) (f : ℕ) (r : Answer) → Turns m l R Q E t f r t' → Records f (turned m n t) (turned m n t') r
  turns_mean t t' f r (over p q e w) = rw (p, q, e) (over_means f (m t.set) (n t.other) (n t'.other) r (other t.other t'.other f r w))
  turns_mean t t' f r (goes p one new q e ok b z w) = rw (p, q, e, ok) (went_over t.set (n t.other) b t'.other f one new w)
  turns_mean t t' f r (lists p k q e w) = rw (p, q) (lists_means f (m t.set) (m t'.set) (n t.other) (n t'.other) r (set t.set t'.set f r w))

pub returns_mean : {S B : Type 0} (m : S → Meaning) (E : S → S → Type 0) (n : B → Meaning) → ((s s' : S) → E s s' → Emptied (m s) (m s'))
    → (t t' : TurningFilter S B) → Returns E t t' → Emptied (turned m n t) (turned m n t')
returns_mean m E n set t t' w =
    let e = set t.set t'.set w.set in
    let c = counted t.form (m t.set) (n t.other) in
    rw (w.form) (record { none = e.none; sures = ap (λ z. z - 1) e.sures ∙ sym c; counts = ap (λ z. z - 1) e.counts ∙ sym c })

-- the order, by the set's
module _ {S B : Type 0} (m : S → Meaning) (k : S → Bool) (l : S → List ℕ) (R : S → ℕ → Answer → S → Type 0) (n : B → Meaning) (Q : B → ℕ → Answer → B → Type 0) (E : B → B → Type 0)
    (set : (s s' : S) (f : ℕ) (r : Answer) → R s f r s' → Appends m k l s f r s') where
  pub turns_append : (t t' : TurningFilter S B) (f : ℕ) (r : Answer) → Turns m l R Q E t f r t' → Appends (turned m n) (listing k) (telling l) t f r t'
  turns_append t t' f r (over p q e w) = record {
    same = λ _. rw (p, q) (refl, refl);
    behind = λ _ y. absurd (false≢true (rw q at y));
    sure = λ _ h. absurd (let z : 0 < 0 = rw p at h in omega arith);
  }
  turns_append t t' f r (goes p one new q e ok b z w) = record {
    same = λ h. absurd (true≢false (rw ok at h));
    behind = λ _ y. absurd (false≢true (rw q at y));
    sure = λ _ h. absurd (let z : 0 < (m t.set).sure - 1 = rw p at h in omega arith);
  }
  turns_append t t' f r (lists p o q e w) =
      let a = set t.set t'.set f r w in
      record {
        same = λ h. rw (p, q) (a.same h);
        behind = λ h y. let z : k t'.set ≡ true = rw q at y in rw (p, q) (a.behind h z);
        sure = λ h y. let z : 0 < (m t.set).sure - 1 = rw p at y in rw q (a.sure h (omega arith));
      }

pub returns_begin : {S B : Type 0} (k : S → Bool) (l : S → List ℕ) (E : S → S → Type 0) → ((s s' : S) → E s s' → Begins k l s')
    → (t t' : TurningFilter S B) → Returns E t t' → Begins (listing k) (telling l) t'
returns_begin k l E set t t' w = let b = set t.set t'.set w.set in record { on = rw w.form b.on; none = rw w.form b.none }
