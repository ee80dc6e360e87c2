use Rattle.juses.proofs.ManyRuns.{legal_run, faithful_run}
use Rattle.juses.proofs.There.{ends_run}
use Rattle.jlaws.proofs.one_thread_law.Goals as goal

pub returns-clause-legal : goal.returns-clause-legal
returns-clause-legal g c meaning script workers r run = legal_run meaning script workers r run.0

pub returns-clause-faithful : goal.returns-clause-faithful
returns-clause-faithful g c meaning script workers r run = faithful_run meaning script workers r run.0

pub returns-clause-complete : goal.returns-clause-complete
returns-clause-complete g c meaning script workers r run = ends_run meaning script workers r run
