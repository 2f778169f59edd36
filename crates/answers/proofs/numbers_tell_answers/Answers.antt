use Rattle.answers.proofs.Telling.{numbers_tell}
use Rattle.answers.proofs.numbers_tell_answers.Goals as goal

pub returns : goal.returns
returns c = numbers_tell
