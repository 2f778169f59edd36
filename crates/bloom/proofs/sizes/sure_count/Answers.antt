use Rattle.std.proofs.Common.{◌≡◌, ◌/◌, ◌%◌, ◌*◌, ◌^◌, ◌<◌, mod-eq_of_lt, arith}
use Rattle.bloom.proofs.Doubling.{largest_7}
use Rattle.bloom.proofs.sizes.sure_count.Goals as goal

pub returns-in_default : goal.returns-in_default
returns-in_default c =
    let h = c.ilog2.ensures in
    let l : 7 * 2 ^ c.ilog2.result < 4294967296 = omega arith in
    let e : 7 * 2 ^ c.ilog2.result % 4294967296 ≡ 7 * 2 ^ c.ilog2.result = mod-eq_of_lt l in
    largest_7 (c.args.budget / 2) _ c.ilog2.result e (omega arith) (omega arith)
