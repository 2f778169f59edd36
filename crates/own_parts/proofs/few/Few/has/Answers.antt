use Rattle.std.proofs.Common.{◌≡◌, nat_eq, vec_items, ap, ◌∙◌}
use Rattle.std.specs.List.{list_any}
use Rattle.own_parts.proofs.Sets.{member_any}
use Rattle.own_parts.proofs.few.Few.has.Goals as goal

pub returns : goal.returns
returns c =
    let e : c.contains.result ≡ list_any (λ x. nat_eq x c.args.f) c.deref.result.now = c.contains.ensures.value in
    e ∙ ap (list_any (λ x. nat_eq x c.args.f)) c.deref.ensures.value ∙ member_any (vec_items c.args.self.now.held) c.args.f
