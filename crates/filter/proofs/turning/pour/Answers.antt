use Rattle.std.proofs.Common.{ℕ, ◌+◌, ◌<◌, ◌≤◌, List, length, take, sym, subst, arith}
use Rattle.std.proofs.lemmas.List.{take_all}
use Rattle.filter.specs.Turning.{Poured}
use Rattle.filter.proofs.Pours.{poured_told, told-some}
use Rattle.filter.proofs.turning.pour.Goals as goal
use Rattle.filter.proofs.turning.pour.Goals.{in-Some, in_default}

pub loop-i-preserved : goal.loop-i-preserved
loop-i-preserved g c =
    let fs = g.S.ListingFilter.listed c.args.set.now in
    let h : c.loop-i.i < length fs = omega arith in
    elim c.match-tell.branch [
      | in-Some w ↦
          let P : g.row.B.Denot → Type 0 = λ o. Poured g.B.Filter.records (take (c.loop-i.i + 1) fs) c.args.other.now o in
          subst P (sym w.other-is) (poured_told g.B.Filter.records fs _ _ _ _ _ _ _ h c.tell.ensures w.in-Some.is c.loop-i.invariant w.record.ensures)
      | in_default w ↦ told-some fs _ _ h c.tell.ensures w.in_default.is
    ]

pub returns : goal.returns
returns g c =
    let fs : List ℕ = g.S.ListingFilter.listed c.args.set.now in
    let P : List ℕ → Type 0 = λ xs. Poured g.B.Filter.records xs c.args.other.now c.loop-i.other in
    let h : length fs ≤ c.loop-i.i = omega arith in
    subst P (take_all _ fs h) c.loop-i.invariant
