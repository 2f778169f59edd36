use Rattle.sealing.proofs.Sayings.{only_sealed}
use Rattle.sealing.proofs.only_what_is_sealed_is_read.Goals as goal

pub returns : goal.returns
returns g c =
    only_sealed (g.S.SealingScheme.image c.args.scheme.now) (g.S.SealingScheme.opened c.args.scheme.now)
    (record { opens = g.met.S.SealingScheme.opens c.args.scheme.now; only = g.met.S.SealingScheme.only c.args.scheme.now })
