use Rattle.token_log.proofs.GivenBack.{given_back}
use Rattle.token_log.proofs.bloom_log.a_log_gives_back_enough_for_another.Goals as goal

pub returns : goal.returns
returns g c budget k n = given_back budget k n
