use Rattle.bloom.specs.Stores.{Clears}
use Rattle.bloom.proofs.words.clear.Given as goal

abbrev pub invariant-loop-at : goal.invariant-loop-at
invariant-loop-at g l = Clears g.W.Words.stores g.W.Words.words l.at l.initial.memory l.memory
