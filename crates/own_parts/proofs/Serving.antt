-- No token is honoured twice, as a client sees it.
use Rattle.std.proofs.Common.{◌≡◌, ◌≢◌, ℕ, ◌+◌, ◌<◌, Bool, true, false, List, [], ◌∷◌, length, get_or, set, vec_items, Result, sym, refl, ap, ◌∙◌, subst, inl, inr, arith, get_or-set_other, get_or-set_same, below_more}
use Rattle.std.specs.List.{AllByRecursion}
use Rattle.answers.specs.declared.Refusal.{Refusal}
use Rattle.gate.specs.declared.verdict.Verdict.{Verdict}
use Rattle.gate.specs.Calls.{Terms, Arrival}
use Rattle.gate.specs.Successions.{Call}
use Rattle.gate.specs.Successions.Call.{issuing, arriving}
use Rattle.answers.specs.Successions.{Exists}
use Rattle.gate.specs.Laws.{Once, carried, carries, honours, honoured}
use Rattle.own_parts.specs.declared.clients.Guest.{Guest}
use Rattle.own_parts.specs.Clients.{Answers, Honoured, Told}

-- calls that carry other pairs than an arrival do not honour its token
others : (t : Terms) (x : Arrival) (r : Result Verdict Refusal) (xs : List Call) → AllByRecursion (λ y. honoured y ≡ true → carries t y ≢ carries t (arriving x r)) xs
    → Exists (Honoured x.token) xs → ⊥
others t x r [] a e = e
others t x r (issuing y q ∷ xs) a (inl e) = e
others t x r (arriving y q ∷ xs) a (inl e) = a.0 e.1 (ap (carried t.opened) e.0)
others t x r (y ∷ xs) a (inr e) = others t x r xs a.1 e

pub told : (t : Terms) (x : Arrival) (r : Result Verdict Refusal) (xs : List Call) → Once t (arriving x r ∷ xs) → Told x.token (honours r) (arriving x r) xs
told t x r xs o = record { answers = (refl, refl); first = λ h. others t x r xs (o.0 h).others }

pub told_as : (token token' : List ℕ) (b b' : Bool) (x : Call) (xs : List Call) → token' ≡ token → b' ≡ b → Told token' b' x xs → Told token b x xs
told_as token token' b b' x xs e f w =
    let T : List ℕ → Type 0 = λ u. Told u b x xs in
    let B : Bool → Type 0 = λ u. Told token' u x xs in
    subst T e (subst B f w)

abbrev token_at : List Guest → ℕ → Guest → List ℕ
token_at guests k d = vec_items (get_or guests k d).token

-- the first i guests were served, by calls that P holds of
pub record Served (P : List Call → Type 0) (guests : List Guest) (notes : List Bool) (i : ℕ) : Type 0 where
  pub calls : List Call
  pub leads : P calls
  pub noted : (d : Guest) (k : ℕ) → k < i → get_or notes k false ≡ true → Exists (Honoured (token_at guests k d)) calls
  pub apart : (d : Guest) (j : ℕ) → j < i → (k : ℕ) → k < j → get_or notes k false ≡ true → get_or notes j false ≡ true
      → token_at guests k d ≡ token_at guests j d → ⊥

module _ (P P' : List Call → Type 0) (guests : List Guest) (notes : List Bool) (i : ℕ) (b : Bool) (g : Guest) (within : i < length notes) (read : (d : Guest) → g ≡ get_or guests i d)
    (v : Served P guests notes i) (w : (x : Call) × P' (x ∷ v.calls) × Told (vec_items g.token) b x v.calls) where
  earlier : (k : ℕ) → k < i → get_or (set notes i b) k false ≡ true → get_or notes k false ≡ true
  earlier k h y = let ne : k ≢ i = omega arith in sym (get_or-set_other notes i k b false ne) ∙ y

  newest : get_or (set notes i b) i false ≡ true → b ≡ true
  newest y = sym (get_or-set_same notes i b false within) ∙ y

  pub one_more : Served P' guests (set notes i b) (i + 1)
  one_more = record {
    calls = w.0 ∷ v.calls;
    leads = w.1;
    noted = λ d. below_more _ _ (λ k h y. inr (v.noted d k h (earlier k h y)))
        (λ y. let B : Bool → Type 0 = λ u. Answers (vec_items g.token) u w.0 in
        let T : Guest → Type 0 = λ z. Honoured (vec_items z.token) w.0 in inl (subst T (read d) (subst B (newest y) w.2.answers)));
    apart = λ d. below_more _ _
        (λ j h k l y z. v.apart d j h k l (earlier k (omega arith) y) (earlier j h z))
        (λ k l y z e. let T : List ℕ → Type 0 = λ u. Exists (Honoured u) v.calls in
        w.2.first (newest z) (subst T (e ∙ ap (λ (q : Guest). vec_items q.token) (sym (read d))) (v.noted d k l (earlier k l y))));
  }
