use Rattle.std.proofs.Common.{rules, ◌≡◌, None, Some}
use Rattle.juses.specs.Due.{kept_due}
use Rattle.juses.proofs.DueTasks.{hands_task, answers_task}
use Rattle.juses.proofs.desk.Desk.begin.Goals as goal

pub returns-in-Some-due-clause-answer : goal.returns-in-Some-due-clause-answer
returns-in-Some-due-clause-answer c =
    let open_still : c.args.self.now.closed ≡ None = search rules in
    let due : Some c.in-Some-due.task ≡ kept_due c.args.self.now c.args.why = search rules in
    answers_task c.args.self.now c.args.why c.in-Some-due.task c.hand_out.result open_still due (search rules)

pub returns-in-Some-due-clause-hands : goal.returns-in-Some-due-clause-hands
returns-in-Some-due-clause-hands c =
    let due : Some c.in-Some-due.task ≡ kept_due c.args.self.now c.args.why = search rules in
    hands_task c.args.self.now c.hand_out.new.self c.args.thread c.args.why c.in-Some-due.task c.hand_out.result due (search rules) (search rules)
