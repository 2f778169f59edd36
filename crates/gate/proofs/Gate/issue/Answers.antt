use Rattle.std.proofs.Common.{◌<◌, refl, arith}
use Rattle.wire.specs.declared.types.TokenPayload.TheVariants.{Validation}
use Rattle.sealing.specs.Tokens.{token_for}
use Rattle.gate.specs.Calls.{Terms, Issue, issue_of, with_nonce}
use Rattle.gate.specs.Successions.{Unmoved, terms}
use Rattle.gate.proofs.Stepping.{adds}
use Rattle.gate.proofs.Writing.{refused, written, wrote_is, issue_refused, issue_written}
use Rattle.gate.proofs.Gate.issue.Goals as goal

pub returns-in-Err : goal.returns-in-Err
returns-in-Err g c =
    let gate = c.args.self.now in
    let t : Terms = terms g.S.SealingScheme.image g.S.SealingScheme.opened gate in
    let x : Issue = issue_of c.args.nonce c.args.ip c.args.clock c.args.out.now c.args.working.now in
    let low : x.low < 18446744073709551616 = omega arith in
    let w = refused (with_nonce c.args.nonce) _ c.in-Err.refusal c.args.working.now c.args.out.now (issue_refused t x c.in-Err.refusal c.in-Err.ensures.value) in
    let m : Unmoved gate gate = record { scheme = refl; retry = refl; validation = refl } in
    record { writes = w; kept = refl; adds = adds g.S.SealingScheme.image g.S.SealingScheme.opened g.L.TokenLog.logs gate gate _ (m, ((low, c.ips_are_sound.ensures), wrote_is c.args.nonce _ _ _ _ _ _ w, refl)) }

pub returns : goal.returns
returns g c =
    let gate = c.args.self.now in
    let t : Terms = terms g.S.SealingScheme.image g.S.SealingScheme.opened gate in
    let x : Issue = issue_of c.args.nonce c.args.ip c.args.clock c.args.out.now c.args.working.now in
    let low : x.low < 18446744073709551616 = omega arith in
    let bytes = token_for t.image x.low x.high (Validation x.ip c.in-Ok.issued) in
    let w = written (with_nonce c.args.nonce) _ bytes c.args.working.now _ _ _ _ (issue_written t x c.in-Ok.issued c.in-Ok.ensures.value) c.write.ensures.written c.in-Ok.ensures.enough.0 c.write.ensures.blank in
    let m : Unmoved gate gate = record { scheme = refl; retry = refl; validation = refl } in
    record { writes = w; kept = refl; adds = adds g.S.SealingScheme.image g.S.SealingScheme.opened g.L.TokenLog.logs gate gate _ (m, ((low, c.ips_are_sound.ensures), wrote_is c.args.nonce _ _ _ _ _ _ w, refl)) }
