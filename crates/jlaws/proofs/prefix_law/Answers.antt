use Rattle.jlaws.proofs.Runs.{legal_once, faithful_once}
use Rattle.jlaws.proofs.prefix_law.Goals as goal

pub returns-clause-legal : goal.returns-clause-legal
returns-clause-legal g c = legal_once

pub returns-clause-faithful : goal.returns-clause-faithful
returns-clause-faithful g c meaning script p h = faithful_once meaning script p h
