use Rattle.juses.proofs.Alone.{legal_many, faithful_many, complete_many, run_many}
use Rattle.juses.proofs.laws.alone_law.Goals as goal

pub returns-clause-legal : goal.returns-clause-legal
returns-clause-legal g c = legal_many

pub returns-clause-faithful : goal.returns-clause-faithful
returns-clause-faithful g c = faithful_many

pub returns-clause-complete : goal.returns-clause-complete
returns-clause-complete g c = complete_many

pub returns-clause-run : goal.returns-clause-run
returns-clause-run g c meaning script workers = run_many meaning script workers
