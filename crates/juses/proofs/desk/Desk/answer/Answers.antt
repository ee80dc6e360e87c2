use Rattle.std.proofs.Common.{rules, ◌≡◌, Some, None}
use Rattle.juses.specs.Keeping.{kept_reply, kept_after}
use Rattle.juses.proofs.Desks.{answers_so, only_so, longer}
use Rattle.juses.proofs.desk.Desk.answer.Goals as goal

pub returns-in-Ok-Some-clause-ok : goal.returns-in-Ok-Some-clause-ok
returns-in-Ok-Some-clause-ok c =
    answers_so c.args.self.now c.answer_open.new.self c.args.who c.args.thread c.args.asked c.in-Ok-Some.reply (search rules) (search rules)

pub returns-in-Ok-Some-clause-only : goal.returns-in-Ok-Some-clause-only
returns-in-Ok-Some-clause-only c = only_so c.args.self.now c.answer_open.new.self c.args.who c.args.thread c.args.asked (search rules)

pub returns-in-Ok-Some-clause-child : goal.returns-in-Ok-Some-clause-child
returns-in-Ok-Some-clause-child c = longer c.args.self.now c.args.who c.args.thread c.args.asked c.in-Ok-Some.reply (search rules)
