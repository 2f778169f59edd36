use Rattle.std.proofs.Common.{◌≡◌, length, sym, ◌∙◌, arith, rules}
use Rattle.answers.proofs.Buffers.{written_whole}
use Rattle.wire.specs.Content.{encode_content}
use Rattle.wire.proofs.Contents.{short, bytes}
use Rattle.wire.proofs.Faithful.{same_ok}
use Rattle.sealing.proofs.tokens.encode_into.Goals as goal

pub unwrap-requires : goal.unwrap-requires
unwrap-requires c =
    let s = short c.args.payload.now c.payloads_are_sound.ensures in
    let w = written_whole _ _ _ _ c.encode.ensures (omega (arith, s.1)) in
    search rules

pub returns : goal.returns
returns c =
    let s = short c.args.payload.now c.payloads_are_sound.ensures in
    let w = written_whole _ _ _ _ c.encode.ensures (omega (arith, s.1)) in
    let l : c.unwrap.result ≡ length (encode_content c.args.payload.now) = same_ok _ _ (sym c.unwrap.ensures ∙ w.0) in
    record { len = l; bound = omega (arith, s.1); bytes = bytes c.args.payload.now c.payloads_are_sound.ensures; after = w.1 }
