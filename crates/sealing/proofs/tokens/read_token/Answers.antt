use Rattle.std.proofs.Common.{◌≡◌, ◌-◌, take, Some, None, Err, sym, ap, ◌∙◌, arith}
use Rattle.std.proofs.lemmas.Result.{err_from_is_err_and}
use Rattle.wire.specs.Content.{decode_content}
use Rattle.sealing.specs.Sealing.{content_in}
use Rattle.sealing.specs.Tokens.{decoded}
use Rattle.sealing.proofs.Tokening.{says_stops, says_of, opened_enough, nothing_read, content_read}
use Rattle.sealing.proofs.tokens.read_token.Goals as goal

pub returns-in_err-sealed : goal.returns-in_err-sealed
returns-in_err-sealed g c =
    let opened = g.S.SealingScheme.opened c.args.scheme.now in
    let t = c.args.token.now in
    let p = err_from_is_err_and c.from_residual.result c.from_residual.ensures.1 in
    p.1 ∙ ap Err p.2 ∙ nothing_read opened t _ (says_stops opened t _ c.in_err-sealed.ensures)

pub returns-in_default : goal.returns-in_default
returns-in_default g c =
    let opened = g.S.SealingScheme.opened c.args.scheme.now in
    let t = c.args.token.now in
    let o = opened_enough _ c.open.ensures (omega arith) c.unwrap.ensures in
    nothing_read opened t _ (says_of opened t c.in_ok-sealed.ensures None (ap (content_in c.open.new.working) (sym c.in_default.is) ∙ o))

pub returns-in_err-payload : goal.returns-in_err-payload
returns-in_err-payload g c =
    let opened = g.S.SealingScheme.opened c.args.scheme.now in
    let t = c.args.token.now in
    let w = c.open.new.working in
    let n = c.in-Some.len in
    let z : n - 0 ≡ n = omega arith in
    let o = opened_enough _ c.open.ensures (omega arith) c.unwrap.ensures in
    let p = err_from_is_err_and c.from_residual-in_err-payload.result c.from_residual-in_err-payload.ensures.1 in
    let h = says_of opened t c.in_ok-sealed.ensures (Some (take n w)) (ap (content_in w) (sym c.in-Some.is) ∙ o) in
    p.1 ∙ ap Err p.2 ∙ nothing_read opened t _ (h ∙ ap decoded (sym (c.in_err-payload.ensures ∙ ap (λ y. decode_content (take y w)) z)))

pub returns : goal.returns
returns g c =
    let opened = g.S.SealingScheme.opened c.args.scheme.now in
    let t = c.args.token.now in
    let w = c.open.new.working in
    let n = c.in-Some.len in
    let z : n - 0 ≡ n = omega arith in
    let o = opened_enough _ c.open.ensures (omega arith) c.unwrap.ensures in
    let h = says_of opened t c.in_ok-sealed.ensures (Some (take n w)) (ap (content_in w) (sym c.in-Some.is) ∙ o) in
    content_read opened t c.in_ok-sealed.ensures.1.1 _ c.low_half.ensures _ (h ∙ ap decoded (sym (c.in_ok-payload.ensures ∙ ap (λ y. decode_content (take y w)) z)))
