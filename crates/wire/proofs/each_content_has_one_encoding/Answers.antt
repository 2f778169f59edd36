use Rattle.wire.proofs.Contents as contents
use Rattle.wire.proofs.each_content_has_one_encoding.Goals as goal

pub returns : goal.returns
returns c = contents.only
