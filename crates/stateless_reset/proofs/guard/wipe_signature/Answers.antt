use Rattle.std.proofs.Common.{◌≡◌, ◌∙◌, ap, sym, take, length, replicate, arith}
use Rattle.std.proofs.lemmas.List.{take_at, drop_at}
use Rattle.stateless_reset.proofs.guard.wipe_signature.Goals as goal

pub returns-clause-signature : goal.returns-clause-signature
returns-clause-signature c =
    let s = c.split_at_mut-signature.ensures in
    let n : length c.split_at_mut-signature.result.1.now ≡ 64 = omega (arith, s.back_len, c.told-buffer) in
    drop_at c.split_at_mut-signature.result.0.now c.fill.new.self 96 s.front_len ∙ (c.fill.ensures.after (λ y e. e) ∙ ap (λ k. replicate k 0) n)

pub returns-clause-working : goal.returns-clause-working
returns-clause-working c =
    let s = c.split_at_mut-signature.ensures in
    take_at c.split_at_mut-signature.result.0.now c.fill.new.self 96 s.front_len
    ∙ sym (ap (take 96) s.value ∙ take_at c.split_at_mut-signature.result.0.now c.split_at_mut-signature.result.1.now 96 s.front_len)
