use Rattle.juses.proofs.Bounds.{within_replaced}
use Rattle.juses.proofs.desk.Desk.begin_task.Goals as goal

pub invariant_of-self : goal.invariant_of-self
invariant_of-self c = within_replaced c.self.inside.tasks c.replace.new.self c.self.inside.order.items c.self.inside.threads.items c.self.inside.waiting.items c.self.inside.handed c.self.inside.workers c.self.invariant _ _ _ c.replace.ensures.after
