use Rattle.jeval.proofs.Executing.{executed_acts, executed_reads, executed_ends, bound_never_decides}
use Rattle.jeval.proofs.laws.execution_law.Goals as goal

pub returns-clause-acts : goal.returns-clause-acts
returns-clause-acts c = executed_acts

pub returns-clause-reads : goal.returns-clause-reads
returns-clause-reads c = executed_reads

pub returns-clause-ends : goal.returns-clause-ends
returns-clause-ends c = executed_ends

pub returns-clause-bound : goal.returns-clause-bound
returns-clause-bound c = bound_never_decides
