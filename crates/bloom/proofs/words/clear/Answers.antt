use Rattle.std.proofs.Common.{◌≡◌, ◌+◌, ◌<◌, length, sym, ◌∙◌, subst, arith}
use Rattle.bloom.specs.Stores.{Clears}
use Rattle.bloom.proofs.Storing.{none_cleared, zero_stands, zero_stored}
use Rattle.bloom.proofs.words.clear.Goals as goal
use Rattle.bloom.proofs.words.clear.Goals.{then-word-ne0, else-word-ne0}

pub loop-at-init : goal.loop-at-init
loop-at-init g c = none_cleared g.W.Words.stores g.W.Words.words _

pub loop-at-preserved : goal.loop-at-preserved
loop-at-preserved g c =
    let S = g.W.Words.stores in
    let words = g.W.Words.words in
    let o = c.args.memory.now in
    let l = c.loop-at in
    let h : l.at < length (words o) = omega arith in
    let P : g.row.W.Denot → Type 0 = λ w. Clears S words (l.at + 1) o w in
    elim c.if-word-ne0.branch [
      | then-word-ne0 w ↦
          subst P (sym w.memory-is)
          (zero_stored S words o l.memory l.at h l.invariant w.store.new.self (λ z. w.if-word-ne0.true (c.word.ensures ∙ z)) (g.met.W.Words.stored _ _ _ _ w.store.ensures) w.store.ensures)
      | else-word-ne0 w ↦ subst P (sym w.memory-is) (zero_stands S words o l.memory l.at h l.invariant (sym c.word.ensures ∙ w.if-word-ne0.false))
    ]
