use Rattle.std.proofs.Common.{sym, ap}
use Rattle.answers.proofs.Buffers.{then_put}
use Rattle.wire.specs.Content.{encode_id}
use Rattle.wire.proofs.types.ConnectionId.encode_long.Goals as goal

pub returns : goal.returns
returns c =
    then_put (encode_id c.args.self.now) (ap encode_id (sym c.as_slice-id.ensures.value)) c.requires c.put-at.ensures c.put.ensures
