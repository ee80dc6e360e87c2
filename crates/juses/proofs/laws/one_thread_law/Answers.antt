use Rattle.juses.proofs.Runs.{a_run, whole_run, one_run, once_run, one_thread, legal_run, faithful_run, complete_run}
use Rattle.juses.proofs.laws.one_thread_law.Goals as goal

pub returns-clause-there : goal.returns-clause-there
returns-clause-there g c = a_run

pub returns-clause-run : goal.returns-clause-run
returns-clause-run g c = whole_run

pub returns-clause-one : goal.returns-clause-one
returns-clause-one g c = one_run

pub returns-clause-part : goal.returns-clause-part
returns-clause-part g c script workers r h run legal faithful = once_run script workers r run h (one_thread script workers h legal faithful)

pub returns-clause-legal : goal.returns-clause-legal
returns-clause-legal g c script workers r run = legal_run script workers r run.0

pub returns-clause-faithful : goal.returns-clause-faithful
returns-clause-faithful g c script workers r run = faithful_run script workers r run.0

pub returns-clause-complete : goal.returns-clause-complete
returns-clause-complete g c = complete_run
