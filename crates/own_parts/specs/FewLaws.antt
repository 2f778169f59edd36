-- What a filter that is a plain list means before and after a call.
use Rattle.std.proofs.Common.{◌≡◌, ℕ, ◌<◌, ◌≤◌, true, nat_eq, List, [], ◌∷◌, ◌++◌, length, Ok, Err, vec_items, vec_capacity, sym, refl, arith}
use Rattle.std.proofs.lemmas.Bool.{false≢true, or_parts, eqb-false}
use Rattle.filter.specs.Filter.{Answer, Same, Recorded, Records, Emptied, reply, exact}
use Rattle.filter.specs.Lists.{member}
use Rattle.filter.specs.Orders.{Appends, Begins}
use Rattle.filter.specs.SetLaws.{same, accepts, recorded_push, emptied_set, appended}
use Rattle.own_parts.specs.declared.few.Few.{Few}
use Rattle.own_parts.specs.Few.{few_means, FewRecords, FewEmpties}

-- over lists: of c places, what is held goes from xs to ys
recorded : (xs ys : List ℕ) (c c' f : ℕ) (taken : Unit {0}) → length xs ≤ c → Ok taken ≡ reply (exact xs c) f → ys ≡ xs ++ f ∷ [] → c' ≡ c → Recorded f (exact xs c) (exact ys c')
recorded xs ys c c' f taken within answer held places =
    let free = or_parts (member f xs) (nat_eq (length xs) c) (accepts (exact xs c) f (Ok taken) answer refl) in
    let room : length xs < c = omega (arith, eqb-false (length xs) c free.1) in
    rw (held, places) (recorded_push xs c f free.0 room)

unchanged : (xs ys : List ℕ) (c c' : ℕ) → ys ≡ xs → c' ≡ c → Same (exact xs c) (exact ys c')
unchanged xs ys c c' held places = rw (held, places) (same (exact xs c))

pub few_recorded : (s s' : Few) (f : ℕ) (r : Answer) → FewRecords s f r s' → Records f (few_means s) (few_means s') r
few_recorded s s' f (Err cause) w = record {
  answer = w.answer;
  same = λ e. unchanged (vec_items s.held) (vec_items s'.held) (vec_capacity s.held) (vec_capacity s'.held) w.held w.places;
  recorded = λ e. absurd (false≢true e);
}
few_recorded s s' f (Ok taken) w =
    let within : length (vec_items s.held) ≤ vec_capacity s.held = omega (arith, s.held.ok.0) in
    record {
      answer = w.answer;
      same = λ e. absurd (false≢true (sym e));
      recorded = λ e. recorded (vec_items s.held) (vec_items s'.held) (vec_capacity s.held) (vec_capacity s'.held) f taken within w.answer w.held w.places;
    }

emptied : (xs ys : List ℕ) (c c' : ℕ) → 0 < c → ys ≡ [] → c' ≡ c → Emptied (exact xs c) (exact ys c')
emptied xs ys c c' some held places = rw places (emptied_set xs ys c some held)

pub few_emptied : (s s' : Few) → FewEmpties s s' → Emptied (few_means s) (few_means s')
few_emptied s s' w = emptied (vec_items s.held) (vec_items s'.held) (vec_capacity s.held) (vec_capacity s'.held) s.some w.held w.places

pub few_appends : (s s' : Few) (f : ℕ) (r : Answer) → FewRecords s f r s' → Appends few_means (λ _. true) (λ s. vec_items s.held) s f r s'
few_appends s s' f r w = appended few_means (λ s. vec_items s.held) s s' f r w.held

pub few_begins : (s s' : Few) → FewEmpties s s' → Begins (λ _. true) (λ s. vec_items s.held) s'
few_begins s s' w = record { on = refl; none = w.held }
