use Rattle.std.proofs.Common.{rules, length, map, ap, ◌∙◌}
use Rattle.aes.specs.Field.{sub}
use Rattle.aes.specs.Words.{word}
use Rattle.aes.specs.Keys.{sub_word}
use Rattle.answers.proofs.Calls.{mapped}
use Rattle.aes.proofs.keys.sub_word.Goals as goal

pub returns : goal.returns
unfolding sub_word
returns c =
    c.from_be_bytes.ensures ∙ ap word (mapped _ _ sub 4 c.to_be_bytes.result c.map.result (ap length c.to_be_bytes.ensures) (λ x y q e. search rules) c.map.ensures.items ∙ ap (map sub) c.to_be_bytes.ensures)
