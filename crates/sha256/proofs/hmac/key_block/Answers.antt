use Rattle.std.proofs.Common.{refl, arith}
use Rattle.sha256.proofs.Keys.{short-key}
use Rattle.sha256.proofs.hmac.key_block.Goals as goal

pub returns-else-key-gt-BLOCK : goal.returns-else-key-gt-BLOCK
returns-else-key-gt-BLOCK c = short-key 64 c.copy_from_slice-else-key-gt-BLOCK.new.self c.args.key.now refl c.copy_from_slice-else-key-gt-BLOCK.ensures.after (omega arith)
