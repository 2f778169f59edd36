use Rattle.std.proofs.Common.{◌∙◌, ◌++◌, ap, sym, drop, length, Ok}
use Rattle.std.proofs.lemmas.Bool.{le-ltb, cond-false}
use Rattle.stateless_reset.specs.Tokens.{token_of}
use Rattle.stateless_reset.proofs.Made.{taken_id}
use Rattle.stateless_reset.proofs.token.ResetToken.new.Goals as goal

pub returns : goal.returns
returns g c =
    let i = taken_id c.args.id.now c.in_ok-id.id (sym c.new.ensures ∙ c.in_ok-id.was) in
    let room = le-ltb (length c.args.working.now) 160 c.if-working-lt-RESET_WORKING_LEN.false in
    record {
      answer = ap Ok (c.sign_id.ensures.token ∙ ap (token_of (g.K.SigningKey.signature c.args.key.now)) (c.as_slice.ensures.value ∙ i.0)) ∙ sym (cond-false _ _ _ room ∙ cond-false _ _ _ i.1);
      after = ap (λ b. b ++ drop 160 c.args.working.now) c.sign_id.ensures.blank;
    }
