use Rattle.wire.proofs.Contents as contents
use Rattle.wire.proofs.decoding_undoes_encoding.Goals as goal

pub returns : goal.returns
returns c = contents.back
