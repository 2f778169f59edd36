use Rattle.sha256.proofs.Schedules.{schedules}
use Rattle.sha256.proofs.each_word_follows_from_four_before_it.Goals as goal

pub returns : goal.returns
returns c = schedules
