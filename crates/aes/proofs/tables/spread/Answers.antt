use Rattle.std.proofs.Common.{zero-add, arith}
use Rattle.std.proofs.lemmas.List.FromFn.{get_or-map-range_with_len}
use Rattle.aes.specs.Field.{gmul, inverse, affine, sub}
use Rattle.aes.specs.Cipher.{first_column}
use Rattle.aes.proofs.tables.spread.Goals as goal

pub returns : goal.returns
unfolding gmul inverse affine sub
returns c = get_or-map-range_with_len (λ x. first_column (sub x)) 0 256 c.args.x c.args.x 0 (omega arith) (zero-add _)
