-- What an arrival alone decides: where it asks the log, and that nothing else is honoured.
use Rattle.std.proofs.Common.{◌≡◌, ℕ, ◌≤◌, Bool, true, false, cond, List, is_ok, Some, Ok, Err, Option, Result, sym, refl, ap, ◌∙◌, subst, arith}
use Rattle.std.proofs.lemmas.Bool.{false≢true, le-leb, eq-eqb, and_from, cond-true}
use Rattle.std.proofs.lemmas.Slice.Eq.{bytes_eq-Decides}
use Rattle.answers.specs.declared.Cause.{Cause}
use Rattle.answers.specs.declared.Cause.TheVariants.{OtherIp, Expired, OtherAddress, RetryExpired}
use Rattle.answers.specs.declared.Refusal.{Refusal}
use Rattle.wire.specs.declared.types.IpAddr.{IpAddr}
use Rattle.wire.specs.declared.types.IpAddr.TheVariants.{V4, V6}
use Rattle.wire.specs.declared.types.SocketAddr.{SocketAddr}
use Rattle.wire.specs.Fields.{and_then}
use Rattle.wire.specs.declared.types.TokenPayload.{TokenPayload}
use Rattle.wire.specs.Content.{same_ip, same_addr}
use Rattle.wire.specs.declared.types.TokenPayload.TheVariants.{Retry, Validation}
use Rattle.wire.proofs.Faithful.{same_ok, then_ok}
use Rattle.sealing.specs.Tokens.{low_of, says}
use Rattle.token_log.specs.Log.{Query, Answer, expiry}
use Rattle.gate.specs.declared.verdict.Verdict.{Verdict}
use Rattle.gate.specs.Calls.{Judged, Terms, Arrival, in_date, admitted, weigh, judge}
use Rattle.gate.specs.declared.verdict.Verdict.TheVariants.{Validated, Unvalidated, Rejected}
use Rattle.gate.specs.Calls.Judged.{settled, asks}
use Rattle.gate.specs.Successions.{Follows}
use Rattle.gate.specs.Laws.{honours, pair_of, carried}

-- two tests in a row that settle: nothing is asked, and what is settled is one of the three
asks_no : (a b : Bool) (u v w : Verdict) (l s : ℕ) → cond a (cond b (settled u) (settled v)) (settled w) ≡ asks l s → ⊥
asks_no true true u v w l s h = let z : ◌≡◌ {A = ℕ} 0 1 = cc in omega arith
asks_no true false u v w l s h = let z : ◌≡◌ {A = ℕ} 0 1 = cc in omega arith
asks_no false b u v w l s h = let z : ◌≡◌ {A = ℕ} 0 1 = cc in omega arith

settled_of : (a b : Bool) (u v w o : Verdict) → honours (Ok u) ≡ false → honours (Ok v) ≡ false → honours (Ok w) ≡ false
    → cond a (cond b (settled u) (settled v)) (settled w) ≡ settled o → honours (Ok o) ≡ false
settled_of true true u v w o p q r h = let e : u ≡ o = cc in rw e at p
settled_of true false u v w o p q r h = let e : v ≡ o = cc in rw e at q
settled_of false b u v w o p q r h = let e : w ≡ o = cc in rw e at r

-- two tests in a row before the log is asked
asks_pair : (a b : Bool) (v w : Verdict) (k m l s : ℕ) → cond a (cond b (asks k m) (settled v)) (settled w) ≡ asks l s → ◌≡◌ {A = Option (ℕ × ℕ)} (Some (k, m)) (Some (l, s))
asks_pair true true v w k m l s h = let p : k ≡ l = cc in let q : m ≡ s = cc in cc
asks_pair true false v w k m l s h = let z : ◌≡◌ {A = ℕ} 0 1 = cc in absurd (omega arith)
asks_pair false b v w k m l s h = let z : ◌≡◌ {A = ℕ} 0 1 = cc in absurd (omega arith)

asks_settled : (a b : Bool) (v w o : Verdict) (k m : ℕ) → honours (Ok v) ≡ false → honours (Ok w) ≡ false
    → cond a (cond b (asks k m) (settled v)) (settled w) ≡ settled o → honours (Ok o) ≡ false
asks_settled true true v w o k m p q h = let z : ◌≡◌ {A = ℕ} 0 1 = cc in absurd (omega arith)
asks_settled true false v w o k m p q h = let e : v ≡ o = cc in rw e at p
asks_settled false b v w o k m p q h = let e : w ≡ o = cc in rw e at q

same_ip_lem : (ip : IpAddr) → same_ip ip ip ≡ true
same_ip_lem (V4 o) = (bytes_eq-Decides o o).1 refl
same_ip_lem (V6 o) = (bytes_eq-Decides o o).1 refl

module _ (t : Terms) (x : Arrival) where
  weigh_asks : (said : Result TokenPayload Cause) (l s : ℕ) → weigh t x said ≡ asks l s → pair_of x.token said ≡ Some (l, s)
  weigh_asks (Err c) l s h = let z : ◌≡◌ {A = ℕ} 0 1 = cc in absurd (omega arith)
  weigh_asks (Ok (Retry a o i)) l s h =
      absurd (asks_no (same_addr a x.address) (in_date t.retry i x.clock) (Validated (Some x.destination) o) (Rejected RetryExpired) (Rejected OtherAddress) l s h)
  weigh_asks (Ok (Validation ip i)) l s h =
      asks_pair (same_ip ip x.address.ip) (in_date t.validation i x.clock) (Unvalidated Expired x.destination) (Unvalidated OtherIp x.destination) (low_of x.token) i l s h

  weigh_settled : (said : Result TokenPayload Cause) (o : Verdict) → weigh t x said ≡ settled o → honours (Ok o) ≡ false
  weigh_settled (Err c) o h =
      let e : Unvalidated c x.destination ≡ o = cc in let P : Verdict → Type 0 = λ u. honours (Ok u) ≡ false in subst P e refl
  weigh_settled (Ok (Retry a q i)) o h =
      settled_of (same_addr a x.address) (in_date t.retry i x.clock) (Validated (Some x.destination) q) (Rejected RetryExpired) (Rejected OtherAddress) o refl refl refl h
  weigh_settled (Ok (Validation ip i)) o h =
      asks_settled (same_ip ip x.address.ip) (in_date t.validation i x.clock) (Unvalidated Expired x.destination) (Unvalidated OtherIp x.destination) o (low_of x.token) i refl refl h

  judged : (j : Judged) → judge t x ≡ Ok j → weigh t x (says t.opened x.token) ≡ j
  unfolding judge
  judged j h = same_ok _ _ (then_ok (admitted x.working x.destination x.clock) _ j h).2

  -- an arrival asks about the pair that its token carries
  pub judge_asks : (l s : ℕ) → judge t x ≡ Ok (asks l s) → carried t.opened x.token ≡ Some (l, s)
  judge_asks l s h = weigh_asks (says t.opened x.token) l s (judged (asks l s) h)

  -- what it settles alone is not honoured
  pub judge_settled : (o : Verdict) → judge t x ≡ Ok (settled o) → honours (Ok o) ≡ false
  judge_settled o h = weigh_settled (says t.opened x.token) o (judged (settled o) h)

  -- a token in date from its IP asks the log
  pub due_asks : (ip : IpAddr) (seconds : ℕ) → ip ≡ x.address.ip → x.clock ≤ expiry t.validation seconds → weigh t x (Ok (Validation ip seconds)) ≡ asks (low_of x.token) seconds
  due_asks ip seconds e d = cond-true _ _ _ (ap (same_ip ip) (sym e) ∙ same_ip_lem ip) ∙ cond-true _ _ _ (le-leb _ _ d)

  -- a retry token in date from its address validates it
  pub due_validated : (a : SocketAddr) (original : List ℕ) (seconds : ℕ) → x.address ≡ a → x.clock ≤ expiry t.retry seconds
      → weigh t x (Ok (Retry a original seconds)) ≡ settled (Validated (Some x.destination) original)
  due_validated a original seconds e d = cond-true _ _ _ (ap (same_addr a) e ∙ and_from _ _ (same_ip_lem a.ip) (eq-eqb a.port a.port refl)) ∙ cond-true _ _ _ (le-leb _ _ d)

  -- what is not refused is judged by what its token says
  admitted_by : (a : Result (List ℕ) Refusal) (j : Judged) → is_ok a ≡ true → and_then a (λ id. Ok j) ≡ Ok j
  admitted_by (Ok id) j h = refl
  admitted_by (Err n) j h = absurd (false≢true h)

  pub judge-admitted : is_ok (admitted x.working x.destination x.clock) ≡ true → judge t x ≡ Ok (weigh t x (says t.opened x.token))
  unfolding judge
  judge-admitted h = admitted_by (admitted x.working x.destination x.clock) (weigh t x (says t.opened x.token)) h

  -- what got a verdict was not refused
  module _ {L : Type 0} (R : L → Query → Answer → L → Type 0) (r : Result Verdict Refusal) (s s' : L) (ok : is_ok r ≡ true) where
    unrefused_by : (a : Result (List ℕ) Refusal) (j : Judged) → Follows R t x.destination (and_then a (λ id. Ok j)) r s s' → and_then a (λ id. Ok j) ≡ Ok j
    unrefused_by (Ok id) j w = refl
    unrefused_by (Err n) j w = absurd (false≢true (sym (ap is_ok w.0) ∙ ok))

    pub unrefused : Follows R t x.destination (judge t x) r s s' → judge t x ≡ Ok (weigh t x (says t.opened x.token))
    unfolding judge
    unrefused w = unrefused_by (admitted x.working x.destination x.clock) (weigh t x (says t.opened x.token)) w
