use Rattle.std.proofs.Common.{◌≡◌, rules, Some, None}
use Rattle.gate.specs.declared.verdict.Verdict.TheVariants.{Validated, Unvalidated, Rejected}
use Rattle.gate.proofs.Sameness.{one_tells, both_tell}
use Rattle.gate.proofs.verdict.equal_verdicts_are_the_same.Goals as goal

pub returns-clause-equal : goal.returns-clause-equal
returns-clause-equal c (Validated (Some s) o) (Validated (Some u) p) =
    let ids = c.equal_values_are_the_same.ensures.ids in
    both_tell (λ x y. Validated (Some x) y) s u o p _ _ (ids s u) (ids o p) (λ e. let q : s ≡ u = cc in let r : o ≡ p = cc in (q, r))
returns-clause-equal c (Validated (Some s) o) (Validated None p) = search rules
returns-clause-equal c (Validated None o) (Validated (Some u) p) = search rules
returns-clause-equal c (Validated None o) (Validated None p) =
    one_tells (Validated None) o p _ (c.equal_values_are_the_same.ensures.ids o p) (λ e. cc)
returns-clause-equal c (Validated s o) (Unvalidated u p) = search rules
returns-clause-equal c (Validated s o) (Rejected u) = search rules
returns-clause-equal c (Unvalidated s o) (Validated u p) = search rules
returns-clause-equal c (Unvalidated s o) (Unvalidated u p) =
    both_tell Unvalidated s u o p _ _ (c.equal_answers_are_the_same.ensures.causes s u) (c.equal_values_are_the_same.ensures.ids o p)
    (λ e. let q : s ≡ u = cc in let r : o ≡ p = cc in (q, r))
returns-clause-equal c (Unvalidated s o) (Rejected u) = search rules
returns-clause-equal c (Rejected s) (Validated u p) = search rules
returns-clause-equal c (Rejected s) (Unvalidated u p) = search rules
returns-clause-equal c (Rejected s) (Rejected u) = one_tells Rejected s u _ (c.equal_answers_are_the_same.ensures.causes s u) (λ e. cc)
