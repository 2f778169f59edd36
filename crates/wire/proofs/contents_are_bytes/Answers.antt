use Rattle.wire.proofs.Contents as contents
use Rattle.wire.proofs.contents_are_bytes.Goals as goal

pub returns : goal.returns
returns c = contents.bytes
