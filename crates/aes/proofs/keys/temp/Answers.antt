use Rattle.std.proofs.Common.{sym, ap, ◌∙◌, ap₂, arith}
use lib.Bits.{bit_xor}
use Rattle.aes.specs.Keys.{sub_word}
use Rattle.aes.proofs.Temps.{rot_word_lem, round_constant, temp_first, temp_middle, temp_other}
use Rattle.aes.proofs.keys.temp.Goals as goal

pub returns-in-0 : goal.returns-in-0
returns-in-0 c =
    ap₂ bit_xor (c.sub_word.ensures ∙ ap sub_word (c.rotate_left.ensures ∙ rot_word_lem _ (omega arith))) (round_constant _ (omega arith) (omega arith))
    ∙ sym (temp_first _ _ c.in-0.is)

pub returns-in-4 : goal.returns-in-4
returns-in-4 c = c.sub_word-in-4.ensures ∙ sym (temp_middle _ _ c.in-4.is)

pub returns-in_default : goal.returns-in_default
returns-in_default c = sym (temp_other _ _ (λ e. omega arith) (λ e. omega arith))
