use Rattle.std.proofs.Common.{◌≡◌, ℕ, ◌<◌, ◌≤◌, [], ◌∷◌, take, is_ok, sym, refl, ap, ◌∙◌, subst}
use Rattle.token_log.specs.Log.{expiry}
use Rattle.gate.specs.Calls.{told, wrote, second, issue_of, arrival_of}
use Rattle.gate.specs.Successions.{terms}
use Rattle.gate.specs.Successions.Call.{issuing, arriving}
use Rattle.answers.specs.Successions.Succession.{new}
use Rattle.gate.specs.Laws.{honours}
use Rattle.own_parts.proofs.Admitting.{admitted}
use Rattle.own_parts.proofs.clients.issue_and_admit.Goals as goal

pub returns-after-slip : goal.returns-after-slip
returns-after-slip g c n positive unused lifetime date =
    let i = issue_of c.args.nonce c.args.address.ip c.args.clock c.args.out.now c.args.working.now in
    let w = wrote c.issue.new.out c.issue.result in
    let x = arrival_of (take c.in-Ok.len c.issue.new.out) [] c.args.address c.args.later c.issue.new.working in
    let r = told c.arrive-answer.result in
    let start = c.args.gate.now in
    let leads = c.arrive-answer.ensures.adds start (issuing i w ∷ []) (c.issue.ensures.adds start [] new) in
    let same : c.args.gate.now.validation ≡ c.arrive-answer.new.self.validation = sym (c.arrive-answer.ensures.step.0.validation ∙ ap (λ q. q.validation) c.issue.ensures.kept) in
    let above : ℕ → Type 0 = λ v. 0 < v in
    let dated : ℕ → Type 0 = λ v. c.args.later ≤ expiry v (second c.args.clock) in
    let met = c.every_issued_token_in_date_is_honoured.ensures n start (arriving x r ∷ issuing i w ∷ []) unused (subst above same lifetime) leads in
    c.by_token.ensures ∙ sym (ap (λ z. honours (told z)) c.in-Ok-answer.is)
    ∙ admitted n (terms g.S.SealingScheme.image g.S.SealingScheme.opened c.arrive-answer.new.self) i x w r positive met
    (ap (λ z. is_ok (told z)) c.in-Ok-answer.is) (ap (wrote c.issue.new.out) c.in-Ok.is) refl (subst dated same date)
