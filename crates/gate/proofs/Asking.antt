-- The calls of the log under a succession of calls of the gate.
use Rattle.std.proofs.Common.{◌≡◌, ℕ, false, List, [], ◌∷◌, is_ok, Some, Ok, Err, Result, sym, refl, ap, ◌∙◌, subst}
use Rattle.answers.specs.declared.Refusal.{Refusal}
use Rattle.token_log.specs.Log.{Query, Answer}
use Rattle.token_log.specs.Successions.{Call as Asked, Leads as Logged, Under}
use Rattle.gate.specs.declared.verdict.Verdict.{Verdict}
use Rattle.gate.specs.Calls.{Judged, Terms, Arrival, judge, decided}
use Rattle.gate.specs.Calls.Judged.{settled, asks}
use Rattle.answers.specs.Successions.{Succession}
use Rattle.answers.specs.Successions.Succession.{new, then}
use Rattle.gate.specs.Successions.{Call, Follows, Moves}
use Rattle.gate.specs.Successions.Call.{issuing, arriving}
use Rattle.gate.specs.Laws.{honours, honoured, carries}
use Rattle.gate.proofs.Judging.{judge_asks, judge_settled}

-- the log's calls ks under the calls xs, the newest first in both: an accepted one under each honoured arrival, about the pair that it carries
pub data Mirrors (t : Terms) : List Call → List Asked → Type 0 where
  none : Mirrors t [] []
  silent : {x : Call} {xs : List Call} {ks : List Asked} → honoured x ≡ false → Mirrors t xs ks → Mirrors t (x ∷ xs) ks
  asked : {x : Call} {k : Asked} {xs : List Call} {ks : List Asked} → honoured x ≡ is_ok k.answer → carries t x ≡ Some (k.query.low, k.query.issued) → Mirrors t xs ks
      → Mirrors t (x ∷ xs) (k ∷ ks)

pub honours-decided : (d : List ℕ) (a : Answer) → honours (Ok (decided d a)) ≡ is_ok a
honours-decided d (Ok v) = refl
honours-decided d (Err c) = refl

module _ {L : Type 0} (R : L → Query → Answer → L → Type 0) (t : Terms) where
  -- the log's calls lead from s to s', under the validation lifetime
  pub record Beneath (s : L) (xs : List Call) (s' : L) : Type 0 where
    pub calls : List Asked
    pub mirrors : Mirrors t xs calls
    pub leads : Logged R s calls s'
    pub lifetime : Under t.validation calls

  -- a call that does not ask
  quiet : (s s' s'' : L) (x : Call) (xs : List Call) → honoured x ≡ false → s'' ≡ s' → Beneath s xs s' → Beneath s (x ∷ xs) s''
  quiet s s' s'' x xs h e u = record {
    calls = u.calls;
    mirrors = silent h u.mirrors;
    leads = let P : L → Type 0 = λ z. Logged R s u.calls z in subst P (sym e) u.leads;
    lifetime = u.lifetime;
  }

  arrived : (s s' s'' : L) (x : Arrival) (r : Result Verdict Refusal) (xs : List Call) (j : Result Judged Refusal) → judge t x ≡ j → Follows R t x.destination j r s' s''
      → Beneath s xs s' → Beneath s (arriving x r ∷ xs) s''
  arrived s s' s'' x r xs (Err n) e w u = quiet s s' s'' (arriving x r) xs (ap honours w.0) w.1 u
  arrived s s' s'' x r xs (Ok (settled o)) e w u = quiet s s' s'' (arriving x r) xs (ap honours w.0 ∙ judge_settled t x o e) w.1 u
  arrived s s' s'' x r xs (Ok (asks low seconds)) e w u = record {
    calls = record { query = record { low = low; issued = seconds; lifetime = t.validation }; answer = w.0 } ∷ u.calls;
    mirrors = asked (ap honours w.2 ∙ honours-decided x.destination w.0) (judge_asks t x low seconds e) u.mirrors;
    leads = then u.leads w.1;
    lifetime = (refl, u.lifetime);
  }

  pub beneath : (s : L) (xs : List Call) (s' : L) → Succession (Moves R t) s xs s' → Beneath s xs s'
  beneath s [] s' new = record { calls = []; mirrors = none; leads = new; lifetime = tt }
  beneath s (issuing x a ∷ xs) s'' (then {s' = s'} r w) = quiet s s' s'' (issuing x a) xs refl w.2 (beneath s xs s' r)
  beneath s (arriving x a ∷ xs) s'' (then {s' = s'} r w) = arrived s s' s'' x a xs (judge t x) refl w (beneath s xs s' r)
