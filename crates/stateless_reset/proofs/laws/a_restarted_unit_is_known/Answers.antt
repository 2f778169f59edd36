use Rattle.std.proofs.Common.{◌≤◌, length, arith}
use Rattle.stateless_reset.proofs.Restarting.{known}
use Rattle.stateless_reset.proofs.laws.a_restarted_unit_is_known.Goals as goal

pub returns : goal.returns
returns g c = λ places xs r id w w' v v' token again b m n gave front enough.
    let signature = g.K.SigningKey.signature c.args.key.now in
    let size = g.met.K.SigningKey.sized c.args.key.now id b in
    let least = (g.met.K.SigningKey.within c.args.key.now).0 in
    let long : 16 ≤ length (signature id) = omega (arith, size, least) in
    known signature id w w' v v' token again long m n places xs c.args.table.now r gave front enough
