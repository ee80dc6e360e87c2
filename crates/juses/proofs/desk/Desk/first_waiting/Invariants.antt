use Rattle.std.proofs.Common.{◌≡◌, drop}
use Rattle.std.specs.List.{find}
use Rattle.juses.specs.Due.{is_waiting}
use Rattle.juses.specs.Standing.{phase_in}
use Rattle.juses.proofs.desk.Desk.first_waiting.Given as goal

abbrev pub invariant-loop-task : goal.invariant-loop-task
invariant-loop-task l =
    find (λ task. is_waiting (phase_in l.self.tasks task)) (drop l.task-index l.self.order) ≡ find (λ task. is_waiting (phase_in l.self.tasks task)) l.self.order
