use Rattle.juses.proofs.Runs.{legal_once, faithful_once}
use Rattle.juses.proofs.laws.prefix_law.Goals as goal

pub returns-clause-legal : goal.returns-clause-legal
returns-clause-legal g c = legal_once

pub returns-clause-faithful : goal.returns-clause-faithful
returns-clause-faithful g c = faithful_once
