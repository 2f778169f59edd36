use Rattle.std.proofs.Common.{◌≡◌, ℕ, ◌+◌, ◌-◌, ◌≤◌, ◌%◌, length, take, drop, replicate, Some, Ok, List, ◌++◌, sym, refl, ap, ap₂, ◌∙◌, subst, arith}
use Rattle.std.proofs.lemmas.List.{take_rest, length-take-le}
use Rattle.std.proofs.lemmas.Bool.Decides.{not_from_Decides}
use Rattle.answers.specs.Buffers.{fronted}
use Rattle.sealing.specs.Sealing.{IsOpenedLen, Opens}
use Rattle.sealing.specs.Openings.{unopened, opened_as}
use Rattle.own_parts.specs.Shifting.{shifted, back, tried, shift_opened, shift_opens, shift_none, length-shift}
use Rattle.own_parts.proofs.shift.ShiftSealingScheme.open.Goals as goal

pub returns-then-not-same_tag : goal.returns-then-not-same_tag
returns-then-not-same_tag c =
    let key = c.args.self.now.key in
    let nonce = c.args.nonce.now in
    let sealed = c.args.sealed.now in
    let n = c.in-Some.len in
    let f = subst (IsOpenedLen (length sealed)) c.in-Some.is c.in_ok-len.ensures.len in
    let k : n ≡ length sealed - 16 = omega arith in
    let apart = not_from_Decides c.same_tag.result c.same_tag.ensures c.if-not-same_tag.true in
    let none = shift_none key nonce sealed (omega arith) (λ h. apart (take_rest sealed n ∙ ap (λ z. drop z sealed) k ∙ h)) in
    unopened (shift_opened key nonce) sealed c.args.working.now c.in_ok-len.ensures.enough none

pub returns : goal.returns
returns c =
    let key = c.args.self.now.key in
    let nonce = c.args.nonce.now in
    let sealed = c.args.sealed.now in
    let working = c.args.working.now in
    let n = c.in-Some.len in
    let f = subst (IsOpenedLen (length sealed)) c.in-Some.is c.in_ok-len.ensures.len in
    let k : n ≡ length sealed - 16 = omega arith in
    let same = c.same_tag.ensures.0 c.if-not-same_tag.false in
    let some = shift_opens key nonce sealed c.slices_are_bytes.ensures (omega arith) (ap (λ z. drop z sealed) (sym k) ∙ sym (take_rest sealed n) ∙ same) in
    let part = tried key nonce sealed in
    let l : length part ≡ n = length-shift (back key) (take (length sealed - 16) sealed) ∙ length-take-le (length sealed - 16) sealed (omega arith) ∙ sym k in
    let turned : (0 + (256 - key)) % 256 ≡ back key = omega arith in
    let at : c.add_key.new.out ≡ fronted part working =
    c.add_key.ensures ∙ ap (λ y. fronted (shifted y (take n sealed)) working) turned ∙ ap (λ z. fronted (shifted (back key) (take z sealed)) working) k in
    let e : c.add_key.new.out ≡ part ++ drop n working = at ∙ ap (λ z. part ++ drop z working) l in
    subst (λ w. Opens (shift_opened key nonce) sealed working w (Ok (Some n))) (sym e)
    (opened_as (shift_opened key nonce) sealed working c.in_ok-len.ensures.enough part part n refl l (omega arith) some)
