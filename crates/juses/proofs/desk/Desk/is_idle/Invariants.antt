use Rattle.std.proofs.Common.{◌≡◌, drop}
use Rattle.std.specs.List.{list_any}
use Rattle.juses.specs.Desk.{is_running}
use Rattle.juses.specs.Standing.{phase_in}
use Rattle.juses.proofs.desk.Desk.is_idle.Given as goal

abbrev pub invariant-loop-task : goal.invariant-loop-task
invariant-loop-task l =
    list_any (λ task. is_running l.thread (phase_in l.self.tasks task)) (drop l.task-index l.self.order) ≡ list_any (λ task. is_running l.thread (phase_in l.self.tasks task)) l.self.order
