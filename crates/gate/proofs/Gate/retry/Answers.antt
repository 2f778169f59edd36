use Rattle.std.proofs.Common.{◌≡◌, true, false, length, rules}
use Rattle.answers.specs.declared.Refusal.TheVariants.{AlreadyRetried}
use Rattle.wire.specs.declared.types.TokenPayload.TheVariants.{Retry}
use Rattle.sealing.specs.Tokens.{token_for}
use Rattle.gate.specs.Calls.{is_retried, with_slip}
use Rattle.gate.proofs.Writing.{refused, written, retry_refused, retry_again, retry_written}
use Rattle.gate.proofs.Gate.retry.Goals as goal

pub returns-in-Err-clause-writes : goal.returns-in-Err-clause-writes
returns-in-Err-clause-writes g c =
    refused (with_slip c.args.slip c.args.nonce) _ c.in-Err.refusal c.args.working.now c.args.out.now
    (retry_refused (g.S.SealingScheme.image c.args.self.now.scheme) c.args.nonce c.args.slip c.args.clock (length c.args.out.now) (length c.args.working.now)
    c.in-Err.refusal c.in-Err.ensures.value)

pub returns-then-eq-clause-writes : goal.returns-then-eq-clause-writes
returns-then-eq-clause-writes g c =
    let again : is_retried c.args.slip.validation ≡ true = search rules in
    refused (with_slip c.args.slip c.args.nonce) _ AlreadyRetried c.args.working.now c.args.out.now
    (retry_again (g.S.SealingScheme.image c.args.self.now.scheme) c.args.nonce c.args.slip c.args.clock (length c.args.out.now) (length c.args.working.now)
    c.in-Ok.issued c.in-Ok.ensures.value again)

pub returns-clause-writes : goal.returns-clause-writes
returns-clause-writes g c =
    let first : is_retried c.args.slip.validation ≡ false = search rules in
    let image = g.S.SealingScheme.image c.args.self.now.scheme in
    let nonce = c.args.nonce in
    let slip = c.args.slip in
    let bytes = token_for image nonce.low nonce.high (Retry slip.address slip.destination c.in-Ok.issued) in
    written (with_slip slip nonce) _ bytes c.args.working.now _ _ _ _
    (retry_written image nonce slip c.args.clock (length c.args.out.now) (length c.args.working.now) c.in-Ok.issued c.in-Ok.ensures.value first)
    c.write.ensures.written c.in-Ok.ensures.enough.0 c.write.ensures.blank
