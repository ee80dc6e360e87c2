use Rattle.std.proofs.Common.{◌≡◌, ◌++◌, take, drop}
use Rattle.juses.specs.Activities.{without}
use Rattle.jpass.proofs.helped.Helped.place_of.Given as goal

abbrev pub invariant-loop-place : goal.invariant-loop-place
invariant-loop-place l = without l.task l.tasks ≡ take l.place l.tasks ++ without l.task (drop l.place l.tasks)
