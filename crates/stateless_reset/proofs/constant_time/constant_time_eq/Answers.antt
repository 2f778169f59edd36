use Rattle.std.proofs.Common.{◌∙◌, ap, nat_eq}
use Rattle.stateless_reset.specs.Comparing.{differences, joined}
use Rattle.stateless_reset.proofs.Joining.{none_joined}
use Rattle.stateless_reset.proofs.constant_time.constant_time_eq.Goals as goal

pub returns-then-a-b : goal.returns-then-a-b
returns-then-a-b c =
    ap (λ d. nat_eq d 0) (c.constant_time_ne.ensures.joined ∙ ap (λ xs. joined (differences xs c.args.b.now)) c.iter.ensures.rest)
    ∙ none_joined c.args.a.now c.args.b.now c.if-a-b.true
