use Rattle.std.proofs.Common.{◌≡◌, Ok, Err, Option, sym, refl, ap, ◌∙◌}
use Rattle.std.proofs.lemmas.Result.{err_from_is_err_and}
use Rattle.gate.specs.declared.slip.Slip.{Slip}
use Rattle.gate.specs.declared.verdict.Arrived.{Arrived}
use Rattle.gate.specs.declared.verdict.Verdict.{Verdict}
use Rattle.gate.specs.Calls.{Terms, Arrival, arrival_of, judged_by, told, owed, working_after}
use Rattle.gate.specs.Successions.{Unmoved, terms}
use Rattle.gate.specs.Successions.Call.{arriving}
use Rattle.gate.proofs.Stepping.{admits, step_refused, step-admitted, adds}
use Rattle.gate.proofs.Gate.arrive.Goals as goal

-- the answer of an arrival with a verdict, by its slip
abbrev with_slip_of : Verdict → Option Slip → Arrived
with_slip_of o z = record { verdict = o; slip = z }

pub returns-in_err-here : goal.returns-in_err-here
returns-in_err-here g c =
    let gate = c.args.self.now in
    let image = g.S.SealingScheme.image in
    let opened = g.S.SealingScheme.opened in
    let R = g.L.TokenLog.logs in
    let t : Terms = terms image opened gate in
    let x : Arrival = arrival_of c.args.token.now c.args.destination.now c.args.address c.args.clock c.args.working.now in
    let r = c.from_residual.result in
    let p = err_from_is_err_and r c.from_residual.ensures.1 in
    let h = ap Err p.2 ∙ c.in_err-here.ensures.id in
    let e = p.1 in
    let m : Unmoved gate gate = record { scheme = refl; retry = refl; validation = refl } in
    let w = step_refused R t x p.0 (told r) gate.log h (ap told e) in
    record { step = (m, w); slip = rw e tt; blank = sym (ap (λ z. working_after z c.args.working.now) e); adds = adds image opened R gate gate (arriving x (told r)) (m, w) }

pub returns : goal.returns
returns g c =
    let gate = c.args.self.now in
    let image = g.S.SealingScheme.image in
    let opened = g.S.SealingScheme.opened in
    let R = g.L.TokenLog.logs in
    let t : Terms = terms image opened gate in
    let token = c.args.token.now in
    let d = c.args.destination.now in
    let id = c.in_ok-here.here in
    let x : Arrival = arrival_of token d c.args.address c.args.clock c.args.working.now in
    let h = c.in_ok-here.ensures.id in
    let e : id ≡ d = admits x.working x.clock d id h in
    let gate' = c.decide-verdict.new.self in
    let m = c.decide-verdict.ensures.kept in
    let o = c.decide-verdict.result in
    let w = step-admitted R t token d id c.args.address c.args.clock c.args.working.now (judged_by c.weigh-weighed.result) o gate.log gate'.log e h
    c.weigh-weighed.ensures.value c.decide-verdict.ensures.follows in
    record {
      step = (m, w);
      slip = ap (with_slip_of o) (c.slip-slip.ensures ∙ ap (λ z. owed c.args.address z o) e);
      blank = c.weigh-weighed.ensures.blank;
      adds = adds image opened R gate gate' (arriving x (Ok o)) (m, w);
    }
