use Rattle.std.proofs.Common.{◌≡◌, ◌+◌, ◌%◌, length, sym, ap, ◌∙◌, arith, slice_index}
use lib.Seq.{paste}
use Rattle.std.proofs.lemmas.List.{get_or-map}
use Rattle.std.proofs.lemmas.List.Edits.{paste_none}
use Rattle.answers.proofs.Filling.{front_more, front_all}
use Rattle.own_parts.specs.Shifting.{shifted, length-shift}
use Rattle.own_parts.proofs.shift.add_key.Goals as goal

pub loop-i-init : goal.loop-i-init
loop-i-init c = paste_none c.args.out.now 0 (shifted c.args.key c.args.content.now)

pub loop-i-preserved : goal.loop-i-preserved
loop-i-preserved c =
    let m = c.args.content.now in
    let key = c.args.key in
    let i = c.loop-i.i in
    let l = length-shift key m in
    let v : (slice_index m i + key) % 256 ≡ slice_index (shifted key m) i = sym (get_or-map (λ b. (b + key) % 256) m i 0 0 (omega arith)) in
    front_more c.args.out.now c.loop-i.out (shifted key m) i _ c.loop-i.invariant (omega arith) (omega arith) v

pub returns : goal.returns
returns c =
    let m = shifted c.args.key c.args.content.now in
    let n : c.loop-i.i ≡ length m = omega (arith, length-shift c.args.key c.args.content.now) in
    c.loop-i.invariant ∙ ap (paste c.args.out.now 0 m) n ∙ front_all c.args.out.now m
