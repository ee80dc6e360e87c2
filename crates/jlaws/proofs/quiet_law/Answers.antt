use Rattle.jlaws.proofs.Quieting.{quiet_prints}
use Rattle.jlaws.proofs.quiet_law.Goals as goal

pub returns : goal.returns
returns g c = quiet_prints
