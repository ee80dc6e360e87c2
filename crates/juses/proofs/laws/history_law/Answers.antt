use Rattle.std.proofs.Common.{[]}
use Rattle.juses.specs.Standing.{Refuses}
use Rattle.juses.proofs.Runs.{legal_history, faithful_history, complete_history, refused_history, after_onto, prints_onto, printed_after}
use Rattle.juses.proofs.laws.history_law.Goals as goal

pub returns-clause-legal : goal.returns-clause-legal
returns-clause-legal g c workers script d es r does tells = legal_history script (Refuses d) workers es r does tells

pub returns-clause-faithful : goal.returns-clause-faithful
returns-clause-faithful g c script d = faithful_history script (Refuses d)

pub returns-clause-complete : goal.returns-clause-complete
returns-clause-complete g c script d = complete_history script (Refuses d)

pub returns-clause-refused : goal.returns-clause-refused
returns-clause-refused g c script d = refused_history script (Refuses d)

pub returns-clause-state : goal.returns-clause-state
returns-clause-state g c workers xs = after_onto workers xs []

pub returns-clause-prints : goal.returns-clause-prints
returns-clause-prints g c xs = prints_onto xs []

pub returns-clause-printed : goal.returns-clause-printed
returns-clause-printed g c = printed_after
