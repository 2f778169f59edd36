use Rattle.std.proofs.Common.{◌≡◌, length, sym, ap, ◌∙◌, arith, slice_index}
use lib.Bits.{bit_xor}
use lib.Seq.{paste}
use Rattle.std.proofs.lemmas.List.Edits.{paste_none}
use Rattle.answers.proofs.Filling.{front_more, front_all}
use Rattle.aes.specs.Cipher.{cipher}
use Rattle.ccm.specs.Mode.{masked}
use Rattle.ccm.specs.Masks.{length-masked, masked-at}
use Rattle.ccm.proofs.mode.mask.Goals as goal

pub loop-i-init : goal.loop-i-init
loop-i-init c = paste_none c.args.out.now 0 (masked (cipher c.args.aes.now.round_keys) c.args.bytes.now)

pub loop-i-preserved : goal.loop-i-preserved
loop-i-preserved c =
    let E = cipher c.args.aes.now.round_keys in
    let m = c.args.bytes.now in
    let i = c.loop-i.i in
    let l = length-masked E m in
    let v : bit_xor (slice_index m i) (slice_index c.key_stream-stream.result i) ≡ slice_index (masked E m) i =
    ap (bit_xor (slice_index m i)) (c.key_stream-stream.ensures i (omega arith)) ∙ sym (masked-at E m i (omega arith)) in
    front_more c.args.out.now c.loop-i.out (masked E m) i _ c.loop-i.invariant (omega arith) (omega arith) v

pub returns : goal.returns
returns c =
    let E = cipher c.args.aes.now.round_keys in
    let m = c.args.bytes.now in
    let n : c.loop-i.i ≡ length (masked E m) = omega (arith, length-masked E m) in
    c.loop-i.invariant ∙ ap (paste c.args.out.now 0 (masked E m)) n ∙ front_all c.args.out.now (masked E m)
