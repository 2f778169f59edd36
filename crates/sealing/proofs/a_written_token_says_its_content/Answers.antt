use Rattle.sealing.proofs.Sayings.{says_written}
use Rattle.sealing.proofs.a_written_token_says_its_content.Goals as goal

pub returns : goal.returns
returns g c =
    says_written (g.S.SealingScheme.image c.args.scheme.now) (g.S.SealingScheme.opened c.args.scheme.now) (g.met.S.SealingScheme.longer c.args.scheme.now)
    (record { opens = g.met.S.SealingScheme.opens c.args.scheme.now; only = g.met.S.SealingScheme.only c.args.scheme.now })
