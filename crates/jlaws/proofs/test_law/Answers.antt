use Rattle.jlaws.proofs.Testing.{quiet_is, is_quiet_by}
use Rattle.jlaws.proofs.test_law.Goals as goal

pub returns-clause-passes : goal.returns-clause-passes
returns-clause-passes g c = quiet_is

pub returns-clause-passed : goal.returns-clause-passed
returns-clause-passed g c = is_quiet_by
