use Rattle.aes.specs.Field.{sub}
use Rattle.aes.proofs.Columns.{part0, part1, part2, part3, column_of}
use Rattle.aes.proofs.cipher.column.Goals as goal

pub returns : goal.returns
returns c =
    column_of (sub c.args.a) (sub c.args.b) (sub c.args.c) (sub c.args.d)
    c.spread.result c.rotate_right.result c.rotate_right-2.result c.rotate_right-3.result
    (part0 _ _ c.spread.ensures)
    (part1 _ _ _ c.spread-2.ensures c.rotate_right.ensures)
    (part2 _ _ _ c.spread-3.ensures c.rotate_right-2.ensures)
    (part3 _ _ _ c.spread-4.ensures c.rotate_right-3.ensures)
