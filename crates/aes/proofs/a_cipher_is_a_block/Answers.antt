use Rattle.aes.proofs.Blocks.{blocks}
use Rattle.aes.proofs.a_cipher_is_a_block.Goals as goal

pub returns : goal.returns
returns c = blocks
