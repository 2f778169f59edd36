-- From the parts of an arrival to one step of a succession.
use Rattle.std.proofs.Common.{◌≡◌, ℕ, Bool, true, false, cond, nat_lt, List, [], ◌∷◌, length, Ok, Err, Result, sym, refl, ap, ◌∙◌, subst}
use Rattle.answers.specs.declared.Refusal.{Refusal}
use Rattle.answers.specs.declared.Refusal.TheVariants.{SmallBuffer, LongConnectionId, LateClock}
use Rattle.wire.specs.declared.types.SocketAddr.{SocketAddr}
use Rattle.wire.specs.Fields.{and_then}
use Rattle.wire.proofs.Faithful.{apart, same_ok}
use Rattle.sealing.specs.Sealing.{Image, Opening}
use Rattle.sealing.specs.Tokens.{says}
use Rattle.token_log.specs.Log.{Query, Answer}
use Rattle.gate.specs.declared.Gate.{Gate}
use Rattle.gate.specs.declared.verdict.Verdict.{Verdict}
use Rattle.gate.specs.Calls.{Judged, Terms, Arrival, arrival_of, admitted, weigh, judge}
use Rattle.answers.specs.Successions.{Succession, Adds}
use Rattle.answers.specs.Successions.Succession.{new, then as on}
use Rattle.gate.specs.Successions.{Call, Follows, Moves, terms, Unmoved, Step, Leads}
use Rattle.gate.specs.Successions.Call.{arriving}

-- an id that is admitted is the destination id
passed : (a b e : Bool) (m n k : Refusal) (d id : List ℕ)
    → ◌≡◌ {A = Result (List ℕ) Refusal} (Ok id) (cond a (Err m) (and_then (cond b (Err n) (Ok d)) (λ z. cond e (Err k) (Ok z)))) → id ≡ d
passed true b e m n k d id h = apart m id (sym h)
passed false true e m n k d id h = apart n id (sym h)
passed false false true m n k d id h = apart k id (sym h)
passed false false false m n k d id h = same_ok id d h

pub admits : (working clock : ℕ) (d id : List ℕ) → Ok id ≡ admitted working d clock → id ≡ d
admits working clock d id h = passed (nat_lt working 96) (nat_lt 20 (length d)) (nat_lt 4294967295999999999 clock) SmallBuffer LongConnectionId LateClock d id h

module _ (t : Terms) (x : Arrival) where
  judge_refused : (refusal : Refusal) → Err refusal ≡ admitted x.working x.destination x.clock → judge t x ≡ Err refusal
  unfolding judge
  judge_refused refusal h = let k = sym h in rw k

  judge-admitted : (id : List ℕ) → Ok id ≡ admitted x.working x.destination x.clock → judge t x ≡ Ok (weigh t x (says t.opened x.token))
  unfolding judge
  judge-admitted id h = let k = sym h in rw k

module _ {L : Type 0} (R : L → Query → Answer → L → Type 0) (t : Terms) where
  pub step_refused : (x : Arrival) (refusal : Refusal) (r : Result Verdict Refusal) (s : L) → Err refusal ≡ admitted x.working x.destination x.clock → r ≡ Err refusal
      → Moves R t s (arriving x r) s
  step_refused x refusal r s h e =
      let P : Result Judged Refusal → Type 0 = λ j. Follows R t x.destination j r s s in subst P (sym (judge_refused t x refusal h)) (e, refl)

  pub step-admitted : (token d id : List ℕ) (address : SocketAddr) (clock : ℕ) (working : List ℕ) (j : Judged) (o : Verdict) (s s' : L) → id ≡ d
      → Ok id ≡ admitted (length working) d clock → j ≡ weigh t (arrival_of token id address clock working) (says t.opened token) → Follows R t id (Ok j) (Ok o) s s'
      → Moves R t s (arriving (arrival_of token d address clock working) (Ok o)) s'
  step-admitted token d id address clock working j o s s' e h q w =
      let P : List ℕ → Type 0 = λ z. Ok id ≡ admitted (length working) z clock → Moves R t s (arriving (arrival_of token z address clock working) (Ok o)) s' in
      let Q : Result Judged Refusal → Type 0 = λ z. Follows R t id z (Ok o) s s' in
      subst P e (λ k. subst Q (ap Ok q ∙ sym (judge-admitted t (arrival_of token id address clock working) id k)) w) h

-- calls on gates
module _ {S L : Type 0} (image : S → Image) (opened : S → Opening) (R : L → Query → Answer → L → Type 0) where
  pub same_terms : (g g' : Gate S L) → Unmoved g g' → terms image opened g' ≡ terms image opened g
  same_terms g g' m =
      ap (λ z. record { image = image z; opened = opened z; retry = g'.retry; validation = g'.validation }) m.scheme
      ∙ ap (λ z. record { image = image g.scheme; opened = opened g.scheme; retry = z; validation = g'.validation }) m.retry
      ∙ ap (λ z. record { image = image g.scheme; opened = opened g.scheme; retry = g.retry; validation = z }) m.validation

  pub adds : (g g' : Gate S L) (x : Call) → Step image opened R g x g' → Adds (Step image opened R) x g g'
  adds g g' x v start xs w = on w v

  -- the moves of the log, under the terms of the last gate
  pub moves : (start g : Gate S L) (xs : List Call) → Leads image opened R start xs g → Succession (Moves R (terms image opened g)) start.log xs g.log
  moves start g [] new = new
  moves start g (x ∷ xs) (on {s' = g'} w v) =
      let P : Terms → Type 0 = λ t. Succession (Moves R t) start.log (x ∷ xs) g.log in subst P (sym (same_terms g' g v.0)) (on (moves start g' xs w) v.1)
