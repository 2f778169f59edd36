use Rattle.gate.specs.Successions.{terms}
use Rattle.gate.proofs.Welcoming.{validates}
use Rattle.gate.proofs.laws.a_retry_token_in_date_validates_its_address.Goals as goal

pub returns : goal.returns
returns g c =
    validates (terms g.S.SealingScheme.image g.S.SealingScheme.opened c.args.gate.now) c.a_written_token_says_its_content.ensures
