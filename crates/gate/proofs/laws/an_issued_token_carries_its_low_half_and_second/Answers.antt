use Rattle.gate.specs.Calls.{Terms}
use Rattle.gate.specs.Successions.{terms}
use Rattle.gate.proofs.Welcoming.{says_issued, carries_issued}
use Rattle.gate.proofs.laws.an_issued_token_carries_its_low_half_and_second.Goals as goal

pub returns : goal.returns
returns g c =
    let t : Terms = terms g.S.SealingScheme.image g.S.SealingScheme.opened c.args.gate.now in
    let written = c.a_written_token_says_its_content.ensures in
    record { says = says_issued t written; pair = carries_issued t written }
