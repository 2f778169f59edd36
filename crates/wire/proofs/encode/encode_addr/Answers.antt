use Rattle.std.proofs.Common.{◌++◌, sym, ap}
use Rattle.answers.proofs.Buffers.{then_put}
use Rattle.wire.specs.Content.{encode_ip, encode_addr}
use Rattle.wire.proofs.encode.encode_addr.Goals as goal

pub returns : goal.returns
returns c =
    then_put (encode_addr c.args.address) (ap (λ z. encode_ip c.args.address.ip ++ z) (sym c.to_be_bytes.ensures)) c.requires c.encode_ip-at.ensures c.put.ensures
