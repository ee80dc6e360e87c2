use Rattle.std.proofs.Common.{◌+◌, [], false, length}
use Rattle.jeval.specs.Execution.{executed}
use Rattle.jeval.proofs.Stages.{Stage}
use Rattle.jeval.proofs.activity.Activity.execute.Given as goal

abbrev pub invariant-loop-queue : goal.invariant-loop-queue
invariant-loop-queue g l = Stage record { leads = g.U.Uses.leads; refuses = g.U.Uses.refuses; stays = g.met.U.Uses.stays; joins = g.met.U.Uses.joins } l.fn.self (executed l.levels l.fn.queue [] false) l.self (executed l.levels l.queue l.parts l.assigned)

abbrev pub decreases-loop-queue : goal.decreases-loop-queue
decreases-loop-queue g l = l.self.state.left + length l.queue
