use Rattle.std.proofs.Common.{take}
use Rattle.std.specs.Fmt.{HasWrittenStyled, IsFlush}
use Rattle.hex_text.specs.Digits.{hex}
use Rattle.hex_text.proofs.HexDisplay.fmt.Given as goal

abbrev pub invariant-loop-byte : goal.invariant-loop-byte
invariant-loop-byte g l = IsFlush l.initial.f → HasWrittenStyled g.W.Write.write_str_gives l.initial.f (hex (take l.byte-index l.byte-items)) l.f
