use Rattle.juses.proofs.There.{a_run, ends_run}
use Rattle.juses.proofs.ManyRuns.{solo_run, legal_run, faithful_run, once_run, one_run}
use Rattle.juses.proofs.activity_laws.solo_law.Goals as goal

pub returns-clause-there : goal.returns-clause-there
returns-clause-there g c meaning script workers = a_run meaning script workers

pub returns-clause-solo : goal.returns-clause-solo
returns-clause-solo g c = solo_run

pub returns-clause-legal : goal.returns-clause-legal
returns-clause-legal g c = legal_run

pub returns-clause-faithful : goal.returns-clause-faithful
returns-clause-faithful g c = faithful_run

pub returns-clause-part : goal.returns-clause-part
returns-clause-part g c meaning script workers r h run one = once_run meaning script workers r run h one

pub returns-clause-one : goal.returns-clause-one
returns-clause-one g c = one_run

pub returns-clause-ends : goal.returns-clause-ends
returns-clause-ends g c meaning script workers = ends_run meaning script workers
