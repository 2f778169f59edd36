use Rattle.bloom.proofs.Counting.{vec_keeps}
use Rattle.bloom.proofs.laws.a_vec_keeps_its_capacity.Goals as goal

pub returns : goal.returns
returns c v v' xs s = vec_keeps v v' xs s
