use Rattle.filter.proofs.Ordering.{lists_in_order}
use Rattle.filter.proofs.laws.listing_filters_tell_in_order.Goals as goal

pub returns : goal.returns
returns g c =
    lists_in_order g.S.Filter.meaning g.S.ListingFilter.lists g.S.ListingFilter.listed g.S.ListingFilter.records_listed g.S.ListingFilter.empties_listed
    (λ s s' f r w. g.met.S.Filter.recorded s s' f r (g.met.S.ListingFilter.recorded_listed s s' f r w))
    (λ s s' w. g.met.S.Filter.emptied s s' (g.met.S.ListingFilter.emptied_listed s s' w))
    g.met.S.ListingFilter.appends g.met.S.ListingFilter.begins g.met.S.ListingFilter.gone g.met.S.ListingFilter.once
