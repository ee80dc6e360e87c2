use Rattle.juses.proofs.Threads.{faithful_by, together_faithful}
use Rattle.juses.proofs.activity_laws.faithful_law.Goals as goal

pub returns-clause-each : goal.returns-clause-each
returns-clause-each g c = faithful_by

pub returns-clause-passes : goal.returns-clause-passes
returns-clause-passes g c = together_faithful
