use Rattle.std.proofs.Common.{rules, ◌≡◌, sym, subst, if◌then◌else◌, Ok, Err}
use Rattle.juses.specs.Activities.{without}
use Rattle.jpass.proofs.Passes.{led_refused}
use Rattle.jpass.specs.Timed.{is_end}
use Rattle.jpass.specs.Used.{Asked, the_pass}
use Rattle.jpass.proofs.pass.PassUses.call.Goals as goal

pub returns-in-Ok-clause-ok : goal.returns-in-Ok-clause-ok
returns-in-Ok-clause-ok g c =
    let is : the_pass c.self.inside.pass ≡ c.asks.new.self.pass = search rules in
    let a : Asked c.args.self.now.thread c.args.self.now.pass c.args.who c.args.asked c.asks.new.self.pass (Ok c.in-Ok.reply) = search rules in
    let b : Asked c.args.self.now.thread c.args.self.now.pass c.args.who c.args.asked (the_pass c.self.inside.pass) (Ok c.in-Ok.reply) =
    subst (λ q. Asked c.args.self.now.thread c.args.self.now.pass c.args.who c.args.asked q (Ok c.in-Ok.reply)) (sym is) a in
    let ended : c.end.new.self ≡ (if is_end c.args.asked then without c.args.who c.args.self.now.helped else c.args.self.now.helped) = search rules in
    (b.0 c.args.self.now.helped, search rules, ended)

pub returns-in-Err-clause-err : goal.returns-in-Err-clause-err
returns-in-Err-clause-err g c =
    let a : Asked c.args.self.now.thread c.args.self.now.pass c.args.who c.args.asked c.asks.new.self.pass (Err c.in-Err.halt) = search rules in
    led_refused c.args.self.now c.asks.new.self c.args.who c.args.asked c.in-Err.halt a (search rules) (search rules)
