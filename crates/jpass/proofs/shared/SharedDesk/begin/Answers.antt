use Rattle.std.proofs.Common.{rules, ◌≡◌, ap, Ok, Err, Some, None}
use Rattle.juses.specs.Due.{HandsTask, due_answer}
use Rattle.jpass.proofs.Turning.{moves_due, moves_mark, none_same, halts_for}
use Rattle.jpass.proofs.shared.SharedDesk.begin.Goals as goal

pub returns-in-Ok-Some-clause-answer : goal.returns-in-Ok-Some-clause-answer
returns-in-Ok-Some-clause-answer c =
    let hands : HandsTask c.args.self.now.desk c.args.thread c.args.why.now (Some c.in-Ok-Some.given) c.begin.new.self = search rules in
    (hands, moves_due c.args.self.now.desk c.begin.new.self c.args.thread c.args.why.now c.begin.ensures.state)

pub returns-in-Ok-Some-clause-mark : goal.returns-in-Ok-Some-clause-mark
returns-in-Ok-Some-clause-mark c = moves_mark c.args.self.now.desk c.begin.new.self (moves_due c.args.self.now.desk c.begin.new.self c.args.thread c.args.why.now c.begin.ensures.state)

pub returns-in-Ok-None-clause-answer : goal.returns-in-Ok-None-clause-answer
returns-in-Ok-None-clause-answer c =
    let hands : HandsTask c.args.self.now.desk c.args.thread c.args.why.now None c.begin.new.self = search rules in
    let none : Ok None ≡ due_answer c.args.self.now.desk c.args.why.now = search rules in
    (hands, none)

pub returns-in-Ok-None-clause-unchanged : goal.returns-in-Ok-None-clause-unchanged
returns-in-Ok-None-clause-unchanged c =
    let none : Ok None ≡ due_answer c.args.self.now.desk c.args.why.now = search rules in
    ap (λ d. record { desk = d }) (none_same c.args.self.now.desk c.begin.new.self c.args.thread c.args.why.now c.begin.ensures.state none)

pub returns-in-Err-clause-answer : goal.returns-in-Err-clause-answer
returns-in-Err-clause-answer c =
    let halts : Err c.in-Err.halt ≡ due_answer c.args.self.now.desk c.args.why.now = search rules in
    halts_for c.args.self.now.desk c.args.why.now c.in-Err.halt halts
