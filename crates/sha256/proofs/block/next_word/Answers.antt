use Rattle.sha256.specs.Block.{next_word}
use Rattle.sha256.proofs.block.next_word.Goals as goal

pub returns : goal.returns
unfolding next_word
returns c = simp (c.small_sigma.ensures, c.small_sigma-2.ensures)
