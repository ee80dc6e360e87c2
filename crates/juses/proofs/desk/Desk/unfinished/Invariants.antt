use Rattle.std.proofs.Common.{◌≡◌, ◌≤◌, ◌+◌, drop}
use Rattle.juses.specs.Desk.{count_of, is_unfinished}
use Rattle.juses.specs.Standing.{phase_in}
use Rattle.juses.proofs.desk.Desk.unfinished.Given as goal

abbrev pub invariant-loop-task : goal.invariant-loop-task
invariant-loop-task l =
    (l.count + count_of (λ task. is_unfinished l.pool (phase_in l.self.tasks task)) (drop l.task-index l.self.order) ≡ count_of (λ task. is_unfinished l.pool (phase_in l.self.tasks task)) l.self.order)
    × (l.count ≤ l.task-index)
