-- From the steps of a reader to the definition of what it reads.
use Rattle.std.proofs.Common.{◌≡◌, ℕ, ◌+◌, ◌-◌, ◌≤◌, Bool, true, false, cond, nat_eq, List, length, take, drop, IsErrAnd, IfOk, Ok, Err, Result, sym, refl, ap, ◌∙◌, arith, length-drop}
use Rattle.std.proofs.lemmas.Bool.Decides.{nat_tests}
use Rattle.std.proofs.lemmas.List.{take_rest}
use Rattle.std.proofs.lemmas.Result.{err_from_is_err_and}
use Rattle.answers.specs.declared.Fault.{Fault}
use Rattle.answers.specs.declared.Fault.TheVariants.{ExtraBytes}
use Rattle.wire.specs.Fields.{Reader, both}
use Rattle.wire.specs.Content.{ended}
use Rattle.wire.proofs.Faithful.{apart}

-- what the exit of a `?` answers: the fault that was met, unaltered
pub exits : {A : Type 0} (r : Result A Fault) (e : Fault) → IsErrAnd r (λ y. y ≡ e) → r ≡ Err e
exits r e by = let p = err_from_is_err_and r by in p.1 ∙ ap Err p.2

pub stops : {A : Type 0} (r spec : Result (A × ℕ) Fault) (e : Fault) (n : ℕ)
    → IsErrAnd r (λ y. y ≡ e) → Err e ≡ spec → (r ≡ spec) × IfOk r (λ p. p.1 ≤ n)
stops r spec e n by h = let p = exits r e by in (p ∙ h, rw p tt)

-- two fields in a row: a fault in the first, a fault in the second, both read
module _ {A B : Type 0} (first : Reader A) (second : Reader B) (bs : List ℕ) where
  pub first_stops : (e : Fault) → Err e ≡ first bs → both first second bs ≡ Err e
  first_stops e h = let h' = sym h in rw h'

  module _ (a : A) (n : ℕ) (one : Ok (a, n) ≡ first bs) where
    pub second_stops : (e : Fault) → Err e ≡ second (take (length bs - n) (drop n bs)) → both first second bs ≡ Err e
    second_stops e h =
        let f = sym one in
        let g : second (drop n bs) ≡ Err e = ap second (sym (take_rest bs n)) ∙ sym h in
        rw (f, g)

    pub both_read : (b : B) (m : ℕ) → Ok (b, m) ≡ second (take (length bs - n) (drop n bs)) → both first second bs ≡ Ok ((a, b), n + m)
    both_read b m h =
        let f = sym one in
        let g : second (drop n bs) ≡ Ok (b, m) = ap second (sym (take_rest bs n)) ∙ sym h in
        rw (f, g)

-- the fields took all the bytes, or not
module _ {A : Type 0} (x : A) where
  split_ok : (b : Bool) (e : Fault) → cond {A = Result (Unit {0}) Fault} b (Ok tt) (Err e) ≡ Ok tt → cond {A = Result A Fault} b (Ok x) (Err e) ≡ Ok x
  split_ok true e h = refl
  split_ok false e h = apart {A = Unit {0}} e tt h

  split_err : (b : Bool) (e : Fault) (f : Fault) → Err f ≡ cond {A = Result (Unit {0}) Fault} b (Ok tt) (Err e) → cond {A = Result A Fault} b (Ok x) (Err e) ≡ Err f
  split_err true e f h = apart {A = Unit {0}} f tt h
  split_err false e f h = let s : f ≡ e = cc in ap Err (sym s)

  pub ended_ok : (bs : List ℕ) (n : ℕ) → ◌≡◌ {A = Result (Unit {0}) Fault} (Ok tt) (ended bs (tt, n)) → ended bs (x, n) ≡ Ok x
  ended_ok bs n h = split_ok (nat_eq (length bs) n) ExtraBytes (sym h)

  pub ended_stops : (bs : List ℕ) (n : ℕ) (f : Fault) → ◌≡◌ {A = Result (Unit {0}) Fault} (Err f) (ended bs (tt, n)) → ended bs (x, n) ≡ Err f
  ended_stops bs n f h = split_err (nat_eq (length bs) n) ExtraBytes f h

-- what is left ends where the whole does
pub ended-past : {A : Type 0} (x : A) (bs : List ℕ) (n m : ℕ) → n ≤ length bs → ended (take (length bs - n) (drop n bs)) (x, m) ≡ ended bs (x, n + m)
ended-past x bs n m h =
    let l : length (take (length bs - n) (drop n bs)) ≡ length bs - n = ap length (take_rest bs n) ∙ length-drop n bs in
    let e : nat_eq (length bs - n) m ≡ nat_eq (length bs) (n + m) = grind (arith, nat_tests) in
    rw (l, e)
