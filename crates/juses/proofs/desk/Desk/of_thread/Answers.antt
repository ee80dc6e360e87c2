use Rattle.std.proofs.Common.{rules}
use Rattle.juses.specs.Standing.{phase_in}
use Rattle.juses.specs.Tables.{numbered}
use Rattle.juses.proofs.DueTasks.{found_in, none_in}
use Rattle.juses.proofs.desk.Desk.of_thread.Goals as goal

pub returns-in-Some : goal.returns-in-Some
returns-in-Some c = found_in (phase_in c.args.self.now.tasks) c.args.self.now.order (numbered c.args.self.now.threads c.args.thread) c.in-Some.pool.now c.first_in_pool.result (search rules) c.first_in_pool.ensures

pub returns-in-None : goal.returns-in-None
returns-in-None c = none_in (phase_in c.args.self.now.tasks) c.args.self.now.order (numbered c.args.self.now.threads c.args.thread) (search rules)
