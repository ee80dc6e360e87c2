use Rattle.std.proofs.Common.{rules, ◌≡◌, refl, sym, subst, ◌∙◌, []}
use Rattle.jpass.specs.Used.{Shut}
use Rattle.jpass.proofs.pass.PassUses.close.Goals as goal

pub invariant_of-self-in-Some-2 : goal.invariant_of-self-in-Some-2
invariant_of-self-in-Some-2 g c =
    let was : c.in-Some.pass.turn ≡ c.self.inside.turn.now.name = search rules in
    (refl, (c.shut.ensures.0 0 []).grew.turn ∙ was)

pub returns-clause-leads : goal.returns-clause-leads
returns-clause-leads g c =
    let old : c.args.self.now.pass ≡ c.in-Some.pass = search rules in
    let is : c.match-self.self.pass ≡ c.shut.result = search rules in
    let a : Shut c.args.self.now.pass c.args.cause c.match-self.self.pass =
    subst (λ q. Shut c.args.self.now.pass c.args.cause q) (sym is) (subst (λ p. Shut p c.args.cause c.shut.result) (sym old) c.shut.ensures) in
    (a.0 c.args.self.now.thread c.args.self.now.helped, search rules, search rules)
