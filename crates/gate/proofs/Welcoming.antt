-- Every issued token in date is honoured, since every fresh pair is accepted.
use Rattle.std.proofs.Common.{◌≡◌, ℕ, ◌<◌, true, not, cond, List, [], ◌∷◌, is_ok, Some, Ok, Result, sym, refl, ap, ◌∙◌, subst, inl, inr, ⊎_elim, arith}
use Rattle.std.proofs.lemmas.Bool.{false≢true, ltb-true, leb-true, eqb-true, and_parts, or_cases, cases_Bool}
use Rattle.answers.specs.declared.Refusal.{Refusal}
use Rattle.wire.specs.declared.types.TokenPayload.TheVariants.{Retry, Validation}
use Rattle.answers.specs.Successions.{Succession, Each, EachFrom, Exists}
use Rattle.answers.specs.Successions.Succession.{new, then}
use Rattle.sealing.specs.Sealing.{Image, Opening}
use Rattle.sealing.specs.Tokens.{low_of, says}
use Rattle.sealing.specs.Laws.{AWrittenTokenSaysItsContent}
use Rattle.filter.specs.Filter.{Meaning, Answer as Reply}
use Rattle.token_log.specs.declared.two_generations.TwoGenerationLog.{TwoGenerationLog}
use Rattle.token_log.specs.Log.{Bars, Query, Answer, Answered, expiry}
use Rattle.token_log.specs.Generations.{barred, Logs, Unused}
use Rattle.token_log.specs.Successions.{Call as Asked}
use Rattle.token_log.specs.Laws.{accepted, has, past, excused, NoFreshPairIsBarred}
use Rattle.gate.specs.declared.Gate.{Gate}
use Rattle.gate.specs.declared.verdict.Verdict.{Verdict}
use Rattle.gate.specs.Calls.{Judged, Terms, Issue, FitsIssue, Arrival, second, token_issued, weigh, judge}
use Rattle.gate.specs.Calls.Judged.{asks}
use Rattle.gate.specs.Successions.{Call, Follows, Moves, terms, Step, Leads}
use Rattle.gate.specs.Successions.Call.{issuing, arriving}
use Rattle.gate.specs.Laws.{honours, pair_of, Due, HonouredUnlessBarred, Takes, Passes, honoured_among, Stands, Met, AnIssuedTokenSaysItsIpAndSecond, AnIssuedTokenCarriesItsPair, ARetryTokenValidatesItsAddress}
use Rattle.gate.specs.Laws.Stands.{is_honoured, low_taken, time_passed, sure_spent}
use Rattle.gate.proofs.Writing.{issued_of, retried_of}
use Rattle.gate.proofs.Judging.{due_asks, due_validated, judge-admitted, unrefused}
use Rattle.gate.proofs.Stepping.{same_terms, moves}
use Rattle.gate.proofs.Asking.{Mirrors, honours-decided, beneath}
use Rattle.gate.proofs.Asking.Mirrors.{none, silent, asked}

-- what turns a pair away is an honoured arrival
module _ (t : Terms) where
  taken : (low : ℕ) (xs : List Call) (ks : List Asked) → Mirrors t xs ks → has low ks ≡ true → Exists (Takes t low) xs
  taken low [] ks none e = absurd (false≢true e)
  taken low (x ∷ xs) ks (silent h m) e = inr (taken low xs ks m e)
  taken low (x ∷ xs) (k ∷ ks) (asked h p m) e =
      ⊎_elim
      (λ a. let b = and_parts _ _ a in inl (record { taken = h ∙ b.0; pair = (k.query.issued, p ∙ ap (λ z. Some (z, k.query.issued)) (eqb-true _ _ b.1)) }))
      (λ a. inr (taken low xs ks m a)) (or_cases _ _ e)

  passed : (time : ℕ) (xs : List Call) (ks : List Asked) → Mirrors t xs ks → past time ks ≡ true → Exists (Passes t time) xs
  passed time [] ks none e = absurd (false≢true e)
  passed time (x ∷ xs) ks (silent h m) e = inr (passed time xs ks m e)
  passed time (x ∷ xs) (k ∷ ks) (asked h p m) e =
      ⊎_elim (λ a. let b = and_parts _ _ a in inl (record { taken = h ∙ b.0; pair = (k.query.low, k.query.issued, p, ltb-true _ _ b.1) }))
      (λ a. inr (passed time xs ks m a)) (or_cases _ _ e)

  counted : (xs : List Call) (ks : List Asked) → Mirrors t xs ks → accepted ks ≡ honoured_among xs
  counted [] ks none = refl
  counted (x ∷ xs) ks (silent h m) = let p = counted xs ks m in let q = ap (λ b. cond {A = ℕ} b 1 0) h in omega arith
  counted (x ∷ xs) (k ∷ ks) (asked h p m) = let e = counted xs ks m in let q = ap (λ b. cond {A = ℕ} b 1 0) h in omega arith

  turned : (c : ℕ) (r : Result Verdict Refusal) (xs : List Call) (q : Query) (ks : List Asked) → Mirrors t xs ks → excused c q ks ≡ true
      → Stands c t q.low (expiry q.lifetime q.issued) r xs
  turned c r xs q ks m e =
      ⊎_elim (λ a. low_taken (taken q.low xs ks m a))
      (λ a. ⊎_elim (λ b. time_passed (passed (expiry q.lifetime q.issued) xs ks m b))
      (λ b. let p = leb-true c (accepted ks) b in let n = counted xs ks m in sure_spent (omega arith)) (or_cases _ _ a))
      (or_cases _ _ e)

module _ (t : Terms) (written : AWrittenTokenSaysItsContent t.image t.opened) where
  pub says_issued : AnIssuedTokenSaysItsIpAndSecond t
  says_issued i token f h =
      let o = issued_of t i token h in
      ap (says t.opened) (sym o.1) ∙ (written i.low i.high (Validation i.ip (second i.clock)) f.0 (f.1, o.0)).said

  pub carries_issued : AnIssuedTokenCarriesItsPair t
  carries_issued i token f h =
      let o = issued_of t i token h in
      let low = ap low_of (sym o.1) ∙ (written i.low i.high (Validation i.ip (second i.clock)) f.0 (f.1, o.0)).half in
      ap (pair_of token) (says_issued i token f h) ∙ ap (λ z. Some (z, second i.clock)) low

  pub validates : ARetryTokenValidatesItsAddress t
  validates nonce slip clock room working x f h e d a =
      let o = retried_of t.image nonce slip clock room working x.token h in
      let content = Retry slip.address slip.destination (second clock) in
      let y : says t.opened x.token ≡ Ok content = ap (says t.opened) (sym o.1) ∙ (written nonce.low nonce.high content f.0 (f.1, f.2, o.0)).said in
      judge-admitted t x a ∙ ap (λ z. Ok (weigh t x z)) y ∙ ap Ok (due_validated t x slip.address slip.destination (second clock) e d)

  module _ {L : Type 0} (R : L → Query → Answer → L → Type 0) (bars : L → Bars)
      (tied : (s s' : L) (x : Query) (r : Answer) → R s x r s' → Answered x (is_ok r) (bars s) (bars s')) where
    -- what an issue of a succession was answered
    answered : (s : L) (xs : List Call) (s' : L) → Succession (Moves R t) s xs s' → (i : Issue) (token : List ℕ) → Exists (λ y. y ≡ issuing i (Ok token)) xs
        → FitsIssue i × (token_issued t i ≡ Ok token)
    answered s [] s' r i token e = absurd e
    answered s (x ∷ xs) s'' (then {s' = s'} r w) i token (inl e) =
        let P : Call → Type 0 = λ y. Moves R t s' y s'' in let q = subst P e w in (q.0, sym q.1)
    answered s (x ∷ xs) s'' (then {s' = s'} r w) i token (inr e) = answered s xs s' r i token e

    -- an arrival that is due asks the log, and is honoured just if it does not bar what is asked
    due_honoured : (s : L) (xs : List Call) (s' s'' : L) (x : Arrival) (a : Result Verdict Refusal) → Succession (Moves R t) s xs s' → Moves R t s' (arriving x a) s''
        → (i : Issue) → Due t i x a xs → honours a ≡ not (bars s' t.validation (low_of x.token) (second i.clock))
    due_honoured s xs s' s'' x a r w i d =
        let seconds = second i.clock in
        let q = answered s xs s' r i x.token d.issue in
        let j : judge t x ≡ Ok (asks (low_of x.token) seconds) =
        unrefused t x R a s' s'' d.verdict w ∙ ap (λ y. Ok (weigh t x y)) (says_issued i x.token q.0 q.1) ∙ ap Ok (due_asks t x i.ip seconds d.ip d.date) in
        let P : Result Judged Refusal → Type 0 = λ v. Follows R t x.destination v a s' s'' in
        let v = subst P j w in
        ap honours v.2 ∙ honours-decided x.destination v.0 ∙ (tied s' s'' (record { low = low_of x.token; issued = seconds; lifetime = t.validation }) v.0 v.1).answer

-- over whole successions of a gate
module _ {S L : Type 0} (image : S → Image) (opened : S → Opening) (R : L → Query → Answer → L → Type 0) (bars : L → Bars)
    (tied : (s s' : L) (x : Query) (r : Answer) → R s x r s' → Answered x (is_ok r) (bars s) (bars s')) where
  abbrev Written : S → Type 0
  Written s = AWrittenTokenSaysItsContent (image s) (opened s)

  one_honoured : (start g g' : Gate S L) (xs : List Call) (x : Call) → Written g.scheme → Leads image opened R start xs g → Step image opened R g x g'
      → HonouredUnlessBarred image opened bars g x xs
  one_honoured start g g' xs (issuing x a) law w v = tt
  one_honoured start g g' xs (arriving x a) law w v =
      due_honoured (terms image opened g) law R bars tied start.log xs g.log g'.log x a (moves image opened R start g xs w) v.1

  pub unless_barred : (start g : Gate S L) (xs : List Call) (w : Leads image opened R start xs g) → Written g.scheme → EachFrom (HonouredUnlessBarred image opened bars) w
  unless_barred start g [] new law = tt
  unless_barred start g (x ∷ xs) (then {s' = g'} w v) law =
      let l : Written g'.scheme = subst Written v.0.scheme law in (one_honoured start g' g xs x l w v, unless_barred start g' xs w l)

-- over a log of two generations, by what it does not bar
module _ {S F : Type 0} (image : S → Image) (opened : S → Opening) (m : F → Meaning) (R : F → ℕ → Reply → F → Type 0) (E : F → F → Type 0) (law : NoFreshPairIsBarred m R E)
    (c : ℕ) where
  met : (start g : Gate S (TwoGenerationLog F)) (xs : List Call) (x : Call) → Unused m c start.log → 0 < g.validation → Leads image opened (Logs R E) start xs g
      → HonouredUnlessBarred image opened (barred m) g x xs → Met c (terms image opened g) x xs
  met start g xs (issuing x a) n z w e = tt
  met start g xs (arriving x a) n z w e = λ i d.
      let t = terms image opened g in
      let u = beneath (Logs R E) t start.log xs g.log (moves image opened (Logs R E) start g xs w) in
      let q : Query = record { low = low_of x.token; issued = second i.clock; lifetime = t.validation } in
      ⊎_elim (λ y. turned t c a xs q u.calls u.mirrors y) (λ y. is_honoured (e i d ∙ ap not (law c start.log g.log u.calls q n u.leads z y))) (cases_Bool (excused c q u.calls))

  pub welcome : (start g : Gate S (TwoGenerationLog F)) (xs : List Call) (w : Leads image opened (Logs R E) start xs g) → Unused m c start.log → 0 < g.validation
      → EachFrom (HonouredUnlessBarred image opened (barred m)) w → Each (Met c (terms image opened g)) xs
  welcome start g [] new n z e = tt
  welcome start g (x ∷ xs) (then {s' = g'} w v) n z e =
      let P : Terms → Type 0 = λ t. Met c t x xs × Each (Met c t) xs in
      let p : 0 < g'.validation = let q = v.0.validation in omega arith in
      subst P (sym (same_terms image opened (Logs R E) g' g v.0)) (met start g' xs x n p w e.0, welcome start g' xs w n p e.1)
