use Rattle.wire.proofs.Contents as contents
use Rattle.wire.proofs.contents_are_short.Goals as goal

pub returns : goal.returns
returns c = contents.short
