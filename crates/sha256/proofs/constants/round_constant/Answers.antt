use Rattle.std.proofs.Common.{refl}
use Rattle.sha256.specs.Constants.{round_constants, primes}
use Rattle.sha256.proofs.constants.round_constant.Goals as goal

-- the checker works the constants out from the primes and finds the table
pub returns : goal.returns
unfolding round_constants primes
returns c = refl
