use Rattle.std.proofs.Common.{◌∷◌, length}
use Rattle.jeval.specs.Execution.{all_written}
use Rattle.jeval.proofs.Stages.{Stage}
use Rattle.jeval.proofs.activity.Activity.write_all.Given as goal

abbrev pub invariant-loop-name : goal.invariant-loop-name
invariant-loop-name g l = Stage record { leads = g.U.Uses.leads; refuses = g.U.Uses.refuses; stays = g.met.U.Uses.stays; joins = g.met.U.Uses.joins } l.fn.self (all_written l.fn.names l.fn.values (l.fn.value ∷ l.fn.rest)) l.self (all_written l.names l.values (l.fn.value ∷ l.fn.rest))

abbrev pub decreases-loop-name : goal.decreases-loop-name
decreases-loop-name g l = length l.names
