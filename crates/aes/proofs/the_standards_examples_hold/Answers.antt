use Rattle.std.proofs.Common.{refl}
use Rattle.aes.specs.Field.{gmul, inverse, affine, sub}
use Rattle.aes.specs.Cipher.{add_round_key, round, rounds, cipher}
use Rattle.aes.specs.Keys.{rot_word, sub_word, rcon, temp, key_words, expand, key_expansion}
use Rattle.aes.proofs.the_standards_examples_hold.Goals as goal

pub returns : goal.returns
unfolding gmul inverse affine sub add_round_key round rounds cipher rot_word sub_word rcon temp key_words expand key_expansion
returns c = (refl, refl)
