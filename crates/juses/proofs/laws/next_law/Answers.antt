use Rattle.juses.proofs.Traces.{next_there, next_ended, begins_ended}
use Rattle.juses.proofs.laws.next_law.Goals as goal

pub returns-clause-at_each : goal.returns-clause-at_each
returns-clause-at_each g c = next_there

pub returns-clause-at_end : goal.returns-clause-at_end
returns-clause-at_end g c = next_ended

pub returns-clause-begins : goal.returns-clause-begins
returns-clause-begins g c = begins_ended
