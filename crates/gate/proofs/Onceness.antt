-- No token is honoured twice, since no pair is accepted twice.
use Rattle.std.proofs.Common.{◌≡◌, ◌≢◌, ℕ, Bool, true, false, ◌&&◌, List, [], ◌∷◌, ◌++◌, Some, Option, Result, sym, refl, ap, ◌∙◌}
use Rattle.std.specs.List.{AllByRecursion}
use Rattle.std.proofs.lemmas.Bool.{false≢true}
use Rattle.token_log.specs.Log.{Query, Answer}
use Rattle.answers.specs.declared.Refusal.{Refusal}
use Rattle.answers.specs.Successions.{Succession, Each}
use Rattle.token_log.specs.Successions.{Call as Asked}
use Rattle.token_log.specs.Laws.{Unasked, EachOnce, NoPairIsAcceptedTwice}
use Rattle.gate.specs.declared.verdict.Verdict.{Verdict}
use Rattle.gate.specs.Calls.{Terms, Arrival}
use Rattle.gate.specs.Successions.{Call, Moves}
use Rattle.gate.specs.Successions.Call.{arriving}
use Rattle.gate.specs.Laws.{honours, honoured, carried, carries, Alone, Once}
use Rattle.gate.proofs.Asking.{Mirrors, beneath}
use Rattle.gate.proofs.Asking.Mirrors.{none, silent, asked}

pub same_pair : (l s k m : ℕ) → ◌≡◌ {A = Option (ℕ × ℕ)} (Some (l, s)) (Some (k, m)) → (l ≡ k) × (s ≡ m)
same_pair l s k m h = let e : ◌≡◌ {A = ℕ × ℕ} (l, s) (k, m) = cc in (ap (λ (z : ℕ × ℕ). z.0) e, ap (λ (z : ℕ × ℕ). z.1) e)

module _ (t : Terms) where
  apart_from : (x : Call) (low issued : ℕ) (xs : List Call) (ks : List Asked) → carries t x ≡ Some (low, issued) → Mirrors t xs ks → Unasked low issued ks
      → AllByRecursion (λ y. honoured y ≡ true → carries t y ≡ carries t x → ⊥) xs
  apart_from x low issued [] ks c none u = tt
  apart_from x low issued (y ∷ ys) ks c (silent h m) u = ((λ e _. false≢true (sym h ∙ e)), apart_from x low issued ys ks c m u)
  apart_from x low issued (y ∷ ys) (k ∷ ks) c (asked h p m) u = (
    (λ e q. let w = same_pair _ _ _ _ (sym p ∙ q ∙ c) in u.0 (sym h ∙ e) w.0 w.1),
    apart_from x low issued ys ks c m u.1,
  )

  mirrored : (xs : List Call) (ks : List Asked) → Mirrors t xs ks → EachOnce ks → Once t xs
  mirrored [] ks none e = tt
  mirrored (x ∷ xs) ks (silent h m) e = ((λ y. absurd (false≢true (sym h ∙ y))), mirrored xs ks m e)
  mirrored (x ∷ xs) (k ∷ ks) (asked h p m) e = (
    (λ y. record { pair = ((k.query.low, k.query.issued), p); others = apart_from x k.query.low k.query.issued xs ks p m (e.0 (sym h ∙ y)) }),
    mirrored xs ks m e.1,
  )

  pub once : {L : Type 0} (R : L → Query → Answer → L → Type 0) → NoPairIsAcceptedTwice R → (s : L) (xs : List Call) (s' : L) → Succession (Moves R t) s xs s' → Once t xs
  once R law s xs s' r = let u = beneath R t s xs s' r in mirrored xs u.calls u.mirrors (law t.validation s s' u.calls u.leads u.lifetime)

-- at a place of a list
at_each : (P : Call → List Call → Type 0) (newer : List Call) (x : Call) (older : List Call) → Each P (newer ++ (x ∷ older)) → P x older
at_each P [] x older e = e.0
at_each P (z ∷ zs) x older e = at_each P zs x older e.1

at_all : (P : Call → Type 0) (newer : List Call) (x : Call) (older : List Call) → AllByRecursion P (newer ++ (x ∷ older)) → P x
at_all P [] x older e = e.0
at_all P (z ∷ zs) x older e = at_all P zs x older e.1

never_both : (a b : Bool) → (a ≡ true → b ≡ true → ⊥) → (a && b) ≡ false
never_both true true h = absurd (h refl refl)
never_both true false h = refl
never_both false b h = refl

-- of two arrivals with one token
pub not_both : (t : Terms) (newer between older : List Call) (x y : Arrival) (r q : Result Verdict Refusal)
    → Once t (newer ++ (arriving x r ∷ (between ++ (arriving y q ∷ older)))) → x.token ≡ y.token → (honours r && honours q) ≡ false
not_both t newer between older x y r q o e =
    let rest : List Call = between ++ (arriving y q ∷ older) in
    never_both (honours r) (honours q) (λ a b.
    let l = at_each (λ z earlier. honoured z ≡ true → Alone t z earlier) newer (arriving x r) rest o a in
    at_all (λ z. honoured z ≡ true → carries t z ≢ carries t (arriving x r)) between (arriving y q) older l.others b (ap (carried t.opened) (sym e)))
