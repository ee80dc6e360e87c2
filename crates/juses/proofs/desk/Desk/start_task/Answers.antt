use Rattle.std.proofs.Common.{◌<◌, sym, subst, length}
use Rattle.juses.specs.Desk.{most_tasks}
use Rattle.juses.specs.Standing.{Kept}
use Rattle.juses.proofs.Bounds.{within_added}
use Rattle.juses.proofs.desk.Desk.start_task.Goals as goal

pub invariant_of-self-in-Ok : goal.invariant_of-self-in-Ok
invariant_of-self-in-Ok c =
    within_added c.self.inside.tasks c.push-2.new.self c.self.inside.order.items c.self.inside.threads.items c.self.inside.waiting.items c.self.inside.handed c.self.inside.workers c.self.invariant _ _ c.args.task c.push.new.self.items (subst (λ (d : Kept). length d.order < most_tasks) (sym c.self.view_is) c.requires) c.in-Ok.ensures.ok c.in_ok-push.ensures.items
