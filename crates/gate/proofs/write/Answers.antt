use Rattle.std.proofs.Common.{◌≡◌, ◌≤◌, IfOk, is_ok, length, Ok, sym, ap, ◌∙◌}
use Rattle.std.proofs.lemmas.Bool.{le-ltb, cond-true, cond-false}
use Rattle.wire.proofs.Faithful.{same_ok}
use Rattle.sealing.specs.Tokens.{token_for}
use Rattle.gate.proofs.write.Goals as goal

pub returns-clause-written : goal.returns-clause-written
returns-clause-written g c =
    let token = token_for (g.S.SealingScheme.image c.args.scheme.now) c.args.nonce.low c.args.nonce.high c.args.payload.now in
    let w = c.encode_token.ensures in
    let all : c.encode_token.result ≡ Ok (length token) = w.answer ∙ cond-false _ _ _ (le-ltb (length c.args.out.now) 81 c.requires.room) in
    let few : IfOk c.encode_token.result (λ n. n ≤ 81) = w.within in
    record { len = same_ok _ _ (sym c.unwrap.ensures ∙ all); bound = rw c.unwrap.ensures at few; after = w.after ∙ cond-true _ _ _ (ap is_ok all) }
