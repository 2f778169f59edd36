-- A token that is made again of the same id is the same, and is found where it was given.
use Rattle.std.proofs.Common.{◌≡◌, ℕ, ◌-◌, ◌≤◌, Bool, true, false, cond, nat_lt, List, ◌++◌, length, Ok, Err, Result, sym, ap, ◌∙◌, length-append, arith}
use Rattle.std.proofs.lemmas.Bool.{and_from, le-leb}
use Rattle.std.proofs.lemmas.List.{drop_at, length-take-le}
use Rattle.answers.specs.declared.Refusal.{Refusal}
use Rattle.answers.specs.declared.Refusal.TheVariants.{SmallBuffer, LongConnectionId}
use Rattle.answers.specs.Successions.{Succession}
use Rattle.wire.proofs.Faithful.{apart, same_ok}
use Rattle.stateless_reset.specs.Tokens.{token_of, Makes}
use Rattle.stateless_reset.specs.Tables.{Table, fresh, has, is_reset, last_of}
use Rattle.stateless_reset.specs.Laws.{Call, Step, given}
use Rattle.stateless_reset.proofs.Remembering.{after}

by_tests : (a b : Bool) (t token : List ℕ) → ◌≡◌ {A = Result (List ℕ) Refusal} (Ok t) (cond a (Err SmallBuffer) (cond b (Err LongConnectionId) (Ok token))) → t ≡ token
by_tests true b t token h = apart SmallBuffer t (sym h)
by_tests false true t token h = apart LongConnectionId t (sym h)
by_tests false false t token h = same_ok t token h

made_is : (signature : List ℕ → List ℕ) (id w w' t : List ℕ) → Makes signature id w w' (Ok t) → t ≡ token_of signature id
made_is signature id w w' t m = by_tests (nat_lt (length w) 160) (nat_lt 20 (length id)) t (token_of signature id) m.answer

pub known : (signature : List ℕ → List ℕ) (id w w' v v' token again : List ℕ) → 16 ≤ length (signature id) → Makes signature id w w' (Ok token) → Makes signature id v v' (Ok again)
    → (places : ℕ) (xs : List Call) (s : Table) → Succession Step (fresh places) xs s → given token xs ≡ true
    → (front : List ℕ) → 21 ≤ length (front ++ again) → is_reset s.tokens (front ++ again) ≡ true
known signature id w w' v v' token again long m n places xs s r g front enough =
    let same : again ≡ token = made_is signature id v v' again n ∙ sym (made_is signature id w w' token m) in
    let size : length again ≡ 16 = ap length (made_is signature id v v' again n) ∙ length-take-le 16 (signature id) long in
    let ends : last_of (front ++ again) ≡ again = drop_at front again (length (front ++ again) - 16) (omega (arith, length-append front again)) in
    and_from _ _ (le-leb _ _ enough) (ap (has s.tokens) (ends ∙ same) ∙ ((after places xs s r).holds token ∙ g))
