use Rattle.sealing.proofs.Sayings.{fixes}
use Rattle.sealing.proofs.an_image_fixes_what_opens.Goals as goal

pub returns : goal.returns
returns c = fixes
