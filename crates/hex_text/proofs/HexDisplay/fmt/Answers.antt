use Rattle.std.proofs.Common.{◌/◌, ◌%◌, ◌<◌, [], ◌∷◌, get_or, take_all, rules, refl, sym, subst, arith}
use Rattle.std.proofs.Output.{has_written_styled_append}
use Rattle.std.specs.Fmt.{HasWrittenStyled, IsDefaultSpec}
use Rattle.hex_text.specs.Digits.{hex, glyph_of}
use Rattle.hex_text.proofs.Showing.{hex_more, one_byte}
use Rattle.hex_text.proofs.HexDisplay.fmt.Goals as goal

pub loop-byte-preserved : goal.loop-byte-preserved
loop-byte-preserved g c = λ flush.
    let so_far = c.loop-byte.invariant flush in
    let xs = c.args.self.now.0.now in
    let i = c.loop-byte.byte-index in
    let b = get_or xs i 0 in
    let small : b < 256 = search rules in
    let high = rw (c.glyph.ensures, one_byte (b / 16) (omega arith)) at c.in_ok-write_char.ensures.styled in
    let one : HasWrittenStyled g.W.Write.write_str_gives c.loop-byte.f (glyph_of (b / 16) ∷ []) c.write_char.new.self = high so_far.flush refl in
    let low = rw (c.glyph-in-loop-byte.ensures, one_byte (b % 16) (omega arith)) at c.in_ok-write_char-2.ensures.styled in
    let other : HasWrittenStyled g.W.Write.write_str_gives c.write_char.new.self (glyph_of (b % 16) ∷ []) c.write_char-in-loop-byte.new.self = low one.flush refl in
    subst (λ bs. HasWrittenStyled g.W.Write.write_str_gives c.args.f.now bs c.write_char-in-loop-byte.new.self) (hex_more xs i c.loop-byte-test.true)
    (has_written_styled_append _ _ _ _ _ _ so_far (has_written_styled_append _ _ _ _ _ _ one other))

pub returns-clause-styled : goal.returns-clause-styled
returns-clause-styled g c = λ flush _.
    subst (λ bs. HasWrittenStyled g.W.Write.write_str_gives c.args.f.now (hex bs) c.loop-byte.f) (take_all c.loop-byte.byte-index c.args.self.now.0.now c.loop-byte-test.false) (c.loop-byte.invariant flush)

-- plain options are options
pub returns-clause-writes : goal.returns-clause-writes
returns-clause-writes g c = λ plain _.
    let w = subst (λ bs. HasWrittenStyled g.W.Write.write_str_gives c.args.f.now (hex bs) c.loop-byte.f) (take_all c.loop-byte.byte-index c.args.self.now.0.now c.loop-byte-test.false) (c.loop-byte.invariant plain.flush) in
    record {
      wrote = w.wrote;
      plain = record { bare = subst IsDefaultSpec (sym w.spec) plain.bare; flush = w.flush };
    }
