use Rattle.std.proofs.Common.{ap}
use Rattle.answers.proofs.Buffers.{then_put}
use Rattle.wire.specs.Content.{encode_ip}
use Rattle.wire.proofs.encode.encode_ip.Goals as goal

pub returns-in-V4 : goal.returns-in-V4
returns-in-V4 c = then_put (encode_ip c.args.ip) (ap encode_ip c.in-V4.is) c.requires c.put-at.ensures c.put.ensures

pub returns-in-V6 : goal.returns-in-V6
returns-in-V6 c = then_put (encode_ip c.args.ip) (ap encode_ip c.in-V6.is) c.requires c.put-at-in-V6.ensures c.put-in-V6.ensures
