use Rattle.std.proofs.Common.{◌≡◌, Some, refl, rules, arith, tests}
use Rattle.std.proofs.lemmas.Iterator.{cases_from_any, YieldsList-from_range}
use Rattle.filter.specs.Lists.{place}
use Rattle.filter.proofs.Members.{found_among}
use Rattle.filter.proofs.ListingFilter.holds.Goals as goal

pub returns : goal.returns
returns g c =
    let xs = g.Self.ListingFilter.listed c.args.self.now in
    let n = c.told.result in
    let f = c.args.f in
    found_among xs n f c.any.result c.told.ensures
    (cases_from_any _ _ c.any.result (λ i. place xs i ≡ Some f) (λ i. place xs i ≡ Some f → ⊥) c.any.ensures.ran (YieldsList-from_range 0 n n refl (omega arith)) (λ x q k. search (rules, tests)) (λ x q k. search (rules, tests)))
