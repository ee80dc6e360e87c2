use Rattle.std.proofs.Common.{◌≡◌, drop, Some}
use Rattle.std.specs.List.{find}
use Rattle.juses.specs.Due.{waits_in}
use Rattle.juses.specs.Standing.{phase_in}
use Rattle.juses.proofs.desk.Desk.first_in_pool.Given as goal

abbrev pub invariant-loop-task : goal.invariant-loop-task
invariant-loop-task l =
    find (λ task. waits_in (Some l.pool) (phase_in l.self.tasks task)) (drop l.task-index l.self.order) ≡ find (λ task. waits_in (Some l.pool) (phase_in l.self.tasks task)) l.self.order
