use Rattle.std.proofs.Common.{ℕ, List, not, is_some, sym, ap, ◌∙◌}
use Rattle.std.proofs.lemmas.List.{take_rest}
use Rattle.hex_text.specs.Digits.{unhex}
use Rattle.hex_text.proofs.Reading.{writes_rest, writes_none, writes_end}
use Rattle.hex_text.proofs.writes_bytes.Goals as goal

pub returns-then-is_none : goal.returns-then-is_none
returns-then-is_none c =
    writes_none c.loop-left.left.now c.in-len2-up.len_at_least (ap is_some (sym c.pair.ensures) ∙ c.is_none.ensures ∙ ap not c.if-is_none.true) ∙ c.loop-left.invariant

pub loop-left-preserved : goal.loop-left-preserved
loop-left-preserved c =
    ap (λ (ys : List ℕ). is_some (unhex ys)) (take_rest c.loop-left.left.now 2) ∙ writes_rest c.loop-left.left.now c.in-len2-up.len_at_least (ap is_some (sym c.pair.ensures) ∙ c.is_none.ensures ∙ ap not c.if-is_none.false) ∙ c.loop-left.invariant

pub returns : goal.returns
returns c = c.is_empty.ensures ∙ writes_end c.loop-left.left.now c.in_default.len_below ∙ c.loop-left.invariant
