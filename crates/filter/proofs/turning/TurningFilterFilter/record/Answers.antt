use Rattle.std.proofs.Common.{◌≡◌, sym, refl, ◌∙◌}
use Rattle.filter.specs.Turning.Turns.{goes}
use Rattle.filter.proofs.Pours.{poured_push}
use Rattle.filter.proofs.turning.TurningFilterFilter.record.Goals as goal

pub returns-in-Listing-eq1 : goal.returns-in-Listing-eq1
returns-in-Listing-eq1 g c =
    let t = c.args.self.now in
    let one : (g.S.Filter.meaning t.set).sure ≡ 1 = sym c.sure.ensures ∙ c.in-Listing-eq1.is-1 in
    let new = sym c.holds.ensures ∙ c.if-not-holds.true in
    let p = poured_push g.B.Filter.records (g.S.ListingFilter.listed t.set) _ _ _ c.args.f _ c.pour.ensures c.record-in-Listing-eq1.ensures in
    goes c.in-Listing-eq1.is-0 one new refl refl refl _ c.empty.ensures p
