use Rattle.std.proofs.Common.{rules, ◌≡◌, sym, subst, ◌∙◌, [], ◌∷◌, ◌++◌, if◌then◌else◌, Ok, Err, Some, None}
use Rattle.jpass.proofs.Passes.{led_full, led_none, led_delay, helped_is}
use Rattle.jpass.specs.Timed.{MayHelp, HelpsAll, is_opening}
use Rattle.jpass.specs.Used.{Sought, Refused, the_pass}
use Rattle.jpass.proofs.pass.PassUses.due.Goals as goal

pub returns-then-helps_all-clause-ok : goal.returns-then-helps_all-clause-ok
returns-then-helps_all-clause-ok g c =
    let full : HelpsAll c.args.self.now.helped c.args.why = search rules in
    led_full c.args.self.now c.args.why full

pub returns-in-Ok-Some-clause-ok : goal.returns-in-Ok-Some-clause-ok
returns-in-Ok-Some-clause-ok g c =
    let may : MayHelp c.args.self.now.helped c.args.why = search rules in
    let given : c.takes.result ≡ Ok (Some c.in-Ok-Some.given) = search rules in
    let is : the_pass c.self.inside.pass ≡ c.takes.new.self.pass = search rules in
    let a : Sought Refused c.args.self.now.thread c.args.self.now.pass c.args.why c.takes.new.self.pass (Ok (Some c.in-Ok-Some.given)) =
    subst (λ r. Sought Refused c.args.self.now.thread c.args.self.now.pass c.args.why c.takes.new.self.pass r) given c.takes.ensures.answer in
    let b : Sought Refused c.args.self.now.thread c.args.self.now.pass c.args.why (the_pass c.self.inside.pass) (Ok (Some c.in-Ok-Some.given)) =
    subst (λ q. Sought Refused c.args.self.now.thread c.args.self.now.pass c.args.why q (Ok (Some c.in-Ok-Some.given))) (sym is) a in
    let more : c.begin.new.self ≡ (if is_opening c.args.why then c.args.self.now.helped ++ c.in-Ok-Some.given.0 ∷ [] else c.args.self.now.helped) = search rules in
    (b.0 c.args.self.now.helped may, search rules, more ∙ helped_is c.args.self.now.helped c.args.why c.in-Ok-Some.given.0 c.args.self.now.thread c.in-Ok-Some.given.1)

pub returns-in-Ok-None-clause-ok : goal.returns-in-Ok-None-clause-ok
returns-in-Ok-None-clause-ok g c =
    let may : MayHelp c.args.self.now.helped c.args.why = search rules in
    let given : c.takes.result ≡ Ok None = search rules in
    let a : Sought Refused c.args.self.now.thread c.args.self.now.pass c.args.why c.takes.new.self.pass (Ok None) =
    subst (λ r. Sought Refused c.args.self.now.thread c.args.self.now.pass c.args.why c.takes.new.self.pass r) given c.takes.ensures.answer in
    led_none c.args.self.now c.takes.new.self c.args.why a may (search rules) (search rules)

pub returns-in-Err-clause-err : goal.returns-in-Err-clause-err
returns-in-Err-clause-err g c =
    let a : Sought Refused c.args.self.now.thread c.args.self.now.pass c.args.why c.takes.new.self.pass (Err c.in-Err.halt) = search rules in
    led_delay c.args.self.now c.takes.new.self c.args.why c.in-Err.halt a (search rules) (search rules)
