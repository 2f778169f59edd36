-- The worked examples, in one statement.
use Rattle.worked_examples.specs.Tokens.{TokenExamples}
use Rattle.worked_examples.specs.Memory.{MemoryExamples}
use Rattle.worked_examples.specs.Resets.{ResetExamples}

abbrev pub TheWorkedExamplesHold : Type 0
TheWorkedExamplesHold = TokenExamples × MemoryExamples × ResetExamples
