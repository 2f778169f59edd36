-- Every fresh pair is accepted, over any filter: what a log of two generations bars after calls, by what these were.
use Rattle.std.proofs.Common.{◌≡◌, ℕ, ◌+◌, ◌<◌, ◌≤◌, Bool, true, false, not, if◌then◌else◌, ◌&&◌, nat_eq, List, [], ◌∷◌, is_ok, sym, refl, ap, ◌∙◌, ⊎_elim, arith}
use Rattle.std.proofs.lemmas.Bool.{false≢true, ltb-false, leb-false, or_parts, or_from, ne_eqb, le-ltb, cases_Bool, cases_lt}
use Rattle.filter.specs.Filter.{Meaning, Answer as Reply, Same, Recorded, Records, Emptied, Fresh}
use Rattle.token_log.specs.declared.two_generations.TwoGenerationLog.{TwoGenerationLog}
use Rattle.answers.specs.Successions.{Each}
use Rattle.answers.specs.Successions.Succession.{new, then as on}
use Rattle.token_log.specs.Log.{Query, issue, expiry}
use Rattle.token_log.specs.Generations.{barred, HandsOn, Anew, Logs, Unused}
use Rattle.token_log.specs.Generations.Logs.{never, before, in_one, in_two, next, afresh}
use Rattle.token_log.specs.LogLaws.{by_meaning, emptied_by_meaning, logs_mean, tied_by}
use Rattle.token_log.specs.Successions.{Call, Leads}
use Rattle.token_log.specs.Laws.{accepted, has, past, excused, EveryFreshPairIsAccepted, NoFreshPairIsBarred}
use Rattle.token_log.proofs.Accounts.{raised_ok, takes}

-- a filter after the calls ps: made for c, each accepted call took at most one of these, and while some are sure it
-- refuses no low half that no accepted call had
record Good (c : ℕ) (m : Meaning) (ps : List Call) : Type 0 where
  counts : m.count ≡ c
  room : c ≤ m.sure + accepted ps
  only : 0 < m.sure → (l : ℕ) → has l ps ≡ false → m.refuses l ≡ false

counted : (b : Bool) (n : ℕ) → b ≡ true → (if b then 1 else 0) + n ≡ 1 + n
counted b n e = rw e refl

uncounted : (b : Bool) (n : ℕ) → n ≤ (if b then 1 else 0) + n
uncounted true n = omega arith
uncounted false n = omega arith

second : (b d : Bool) → b ≡ true → (b && d) ≡ false → d ≡ false
second true d y e = e
second false d y e = absurd (false≢true y)

good_kept : (c : ℕ) (m : Meaning) (k : Call) (ps : List Call) → Good c m ps → Good c m (k ∷ ps)
good_kept c m k ps g = record {
  counts = g.counts;
  room = let p = g.room in let q = uncounted (is_ok k.answer) (accepted ps) in omega arith;
  only = λ p l n. g.only p l (or_parts _ _ n).1;
}

good_same : (c : ℕ) (m m' : Meaning) (ps : List Call) → Same m m' → Good c m ps → Good c m' ps
good_same c m m' ps e g = record {
  counts = e.counts ∙ g.counts;
  room = let p = g.room in let q = e.sures in omega arith;
  only = λ p l n. e.refused l ∙ g.only (let q = e.sures in omega arith) l n;
}

good_recorded : (c : ℕ) (m m' : Meaning) (k : Call) (ps : List Call) → is_ok k.answer ≡ true → Recorded k.query.low m m' → Good c m ps → Good c m' (k ∷ ps)
good_recorded c m m' k ps y r g = record {
  counts = r.counts ∙ g.counts;
  room = let a = counted (is_ok k.answer) (accepted ps) y in let p = g.room in
      ⊎_elim (λ q. let z = r.lower q in omega arith) (λ q. let z = r.stays (omega arith) in omega arith) (cases_lt 0 m.sure);
  only = λ p l n.
      let some : 0 < m.sure = ⊎_elim (λ z. z) (λ z. let q = r.stays (omega arith) in absurd (omega arith)) (cases_lt 0 m.sure) in
      let parts = or_parts _ _ n in
      let other : nat_eq k.query.low l ≡ false = second _ _ y parts.0 in
      r.only p l ∙ or_from _ _ other (g.only some l parts.1);
}

good_records : {F : Type 0} (m : F → Meaning) (c : ℕ) (a a' : F) (k : Call) (ps : List Call) → HandsOn (by_meaning m) a k.query.low k.answer a' → Good c (m a) ps → Good c (m a') (k ∷ ps)
good_records m c a a' k ps w g =
    let e = raised_ok k.answer w.reply w.answer in
    ⊎_elim
    (λ y. good_recorded c (m a) (m a') k ps y (w.records.recorded (sym e ∙ y)) g)
    (λ n. good_kept c (m a') k ps (good_same c (m a) (m a') ps (w.records.same (sym e ∙ n)) g))
    (cases_Bool (is_ok k.answer))

good_emptied : (c : ℕ) (m m' : Meaning) (ps : List Call) → m.count ≡ c → Emptied m m' → Good c m' ps
good_emptied c m m' ps n e = record {
  counts = e.counts ∙ n;
  room = let q = e.sures in omega arith;
  only = λ _ l _. e.none l;
}

good_anew : {F : Type 0} (m : F → Meaning) (c : ℕ) (a a' : F) (k : Call) (ps : List Call) → (m a).count ≡ c → Anew (by_meaning m) (emptied_by_meaning m) a k.query.low k.answer a' → Good c (m a') (k ∷ ps)
good_anew m c a a' k ps n w = good_records m c w.between a' k ps w.recorded (good_emptied c (m a) (m w.between) ps n w.emptied)

good_fresh : (c : ℕ) (m : Meaning) → Fresh c m → Good c m []
good_fresh c m f = record { counts = f.counts; room = let q = f.sures in omega arith; only = λ _ l _. f.none l }

-- a log after the calls ps: its period starts no later than any time that no accepted call was issued past
record Sound {F : Type 0} (m : F → Meaning) (c : ℕ) (s : TwoGenerationLog F) (ps : List Call) : Type 0 where
  reached : (e : ℕ) → past e ps ≡ false → s.period_start ≤ e
  ones : Good c (m s.one) ps
  twos : Good c (m s.two) ps

-- of an accepted call, any time that none was issued past is at least its own
issued_by : (k : Call) (ps : List Call) (e : ℕ) → is_ok k.answer ≡ true → past e (k ∷ ps) ≡ false → issue k.query.issued ≤ e
issued_by k ps e y n = ltb-false _ _ (second _ _ y (or_parts _ _ n).0)

module _ {F : Type 0} (m : F → Meaning) (c : ℕ) where
  still : (s s' : TwoGenerationLog F) (k : Call) (ps : List Call) → s' ≡ s → Sound m c s ps → Sound m c s' (k ∷ ps)
  still s s' k ps e g = rw e (record {
    reached = λ e n. g.reached e (or_parts _ _ n).1;
    ones = good_kept c _ k ps g.ones;
    twos = good_kept c _ k ps g.twos;
  })

  step : (s s' : TwoGenerationLog F) (k : Call) (ps : List Call) → Logs (by_meaning m) (emptied_by_meaning m) s k.query k.answer s' → Sound m c s ps → Sound m c s' (k ∷ ps)
  step s s' k ps (never z r e) g = still s s' k ps e g
  step s s' k ps (before z b r e) g = still s s' k ps e g
  step s s' k ps (in_one a b e r o) g = record {
    reached = λ x n. let p = g.reached x (or_parts _ _ n).1 in omega arith;
    ones = good_records m c _ _ k ps r g.ones;
    twos = rw o (good_kept c _ k ps g.twos);
  }
  step s s' k ps (in_two a b e o r) g = record {
    reached = λ x n. let p = g.reached x (or_parts _ _ n).1 in omega arith;
    ones = rw o (good_kept c _ k ps g.ones);
    twos = good_records m c _ _ k ps r g.twos;
  }
  step s s' k ps (next a b e o r) g = record {
    reached = λ x n. let p : issue k.query.issued ≤ x = issued_by k ps x (takes m s.one s'.two k.query.low k.answer r) n in omega arith;
    ones = rw o (good_kept c _ k ps g.twos);
    twos = good_anew m c _ _ k ps g.ones.counts r;
  }
  step s s' k ps (afresh z a e o r) g = record {
    reached = λ x n. let p : issue k.query.issued ≤ x = issued_by k ps x (takes m s.two s'.two k.query.low k.answer r) n in omega arith;
    ones = good_emptied c _ _ (k ∷ ps) g.ones.counts o;
    twos = good_anew m c _ _ k ps g.twos.counts r;
  }

  begins : (s : TwoGenerationLog F) → Unused m c s → Sound m c s []
  begins s u = record {
    reached = λ e _. let p = u.starts in omega arith;
    ones = good_fresh c _ u.ones;
    twos = good_fresh c _ u.twos;
  }

  -- a low half that no accepted call had, while fewer than c were accepted
  unrefused : (a : Meaning) (low : ℕ) (ps : List Call) → Good c a ps → has low ps ≡ false → accepted ps < c → a.refuses low ≡ false
  unrefused a low ps g h n = g.only (let p = g.room in omega arith) low h

  neither : (a b p q : Bool) → p ≡ false → q ≡ false → (if a then p else (if b then q else false)) ≡ false
  neither true b p q e f = e
  neither false true p q e f = f
  neither false false p q e f = refl

  -- what is not excused is not barred
  unbarred : (s : TwoGenerationLog F) (x : Query) (ps : List Call) → 0 < x.lifetime → Sound m c s ps → excused c x ps ≡ false → barred m s x.lifetime x.low x.issued ≡ false
  unbarred s x ps z g n =
      let p = or_parts _ _ n in
      let q = or_parts _ _ p.1 in
      let few : accepted ps < c = leb-false _ _ q.1 in
      let e = expiry x.lifetime x.issued in
      or_from _ _ (ne_eqb x.lifetime 0 (λ y. omega (arith, y)))
      (or_from _ _ (le-ltb e s.period_start (g.reached e q.0))
      (neither _ _ _ _ (unrefused (m s.one) x.low ps g.ones p.0 few) (unrefused (m s.two) x.low ps g.twos p.0 few)))

-- over the accounts of the filters
module _ {F : Type 0} (m : F → Meaning) (R : F → ℕ → Reply → F → Type 0) (E : F → F → Type 0) (recorded : (a a' : F) (f : ℕ) (r : Reply) → R a f r a' → Records f (m a) (m a') r)
    (emptied : (a a' : F) → E a a' → Emptied (m a) (m a')) (c : ℕ) where
  sound : (s s' : TwoGenerationLog F) (ks : List Call) → Unused m c s → Leads (Logs R E) s ks s' → Sound m c s' ks
  sound s s' [] n new = begins m c s n
  sound s s'' (k ∷ ks) n (on {s' = s'} w v) =
      step m c s' s'' k ks (logs_mean m R E recorded emptied s' s'' k.query k.answer v) (sound s s' ks n w)

  -- after calls from an unused log on, what is not excused is not barred
  unbarred_after : (s s' : TwoGenerationLog F) (ks : List Call) (x : Query) → Unused m c s → Leads (Logs R E) s ks s' → 0 < x.lifetime → excused c x ks ≡ false
      → barred m s' x.lifetime x.low x.issued ≡ false
  unbarred_after s s' ks x n w z e = unbarred m c s' x ks z (sound s s' ks n w) e

  -- and so it is accepted
  accepted_each : (s s' : TwoGenerationLog F) (ks : List Call) → Unused m c s → Leads (Logs R E) s ks s'
      → Each (λ k earlier. 0 < k.query.lifetime → excused c k.query earlier ≡ false → is_ok k.answer ≡ true) ks
  accepted_each s s' [] n w = tt
  accepted_each s s'' (k ∷ ks) n (on {s' = s'} w v) = (
    (λ z e. (tied_by m R E recorded emptied s' s'' k.query k.answer v).answer ∙ ap not (unbarred_after s s' ks k.query n w z e)),
    accepted_each s s' ks n w,
  )

module _ {F : Type 0} (m : F → Meaning) (R : F → ℕ → Reply → F → Type 0) (E : F → F → Type 0) (recorded : (a a' : F) (f : ℕ) (r : Reply) → R a f r a' → Records f (m a) (m a') r)
    (emptied : (a a' : F) → E a a' → Emptied (m a) (m a')) where
  pub fresh : EveryFreshPairIsAccepted m R E
  fresh c s s' ks n w = accepted_each m R E recorded emptied c s s' ks n w

  pub no_fresh_barred : NoFreshPairIsBarred m R E
  no_fresh_barred c s s' ks x n w z e = unbarred_after m R E recorded emptied c s s' ks x n w z e
