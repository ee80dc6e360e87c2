use Rattle.jpass.proofs.Turning.{is_answered, is_marked}
use Rattle.jpass.proofs.shared.SharedDesk.answer.Goals as goal

pub returns-in-Ok-clause-answer : goal.returns-in-Ok-clause-answer
returns-in-Ok-clause-answer c =
    let a = c.answer.ensures in
    is_answered c.args.self.now.desk c.answer.new.self c.args.who.now c.args.thread c.in-Ok.copy c.args.asked.now c.answer.result c.in-Ok.ensures a.ok a.child a.only a.halts

pub returns-in-Ok-clause-mark : goal.returns-in-Ok-clause-mark
returns-in-Ok-clause-mark c = is_marked c.args.self.now.desk c.answer.new.self c.answer.result c.answer.ensures.only
