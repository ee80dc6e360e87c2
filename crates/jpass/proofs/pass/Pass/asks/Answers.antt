use Rattle.std.proofs.Common.{rules, ◌≡◌, refl, sym, subst, ◌∙◌}
use Rattle.jpass.proofs.Passes.{turn_asked}
use Rattle.jpass.specs.Used.{Asked}
use Rattle.jpass.proofs.pass.Pass.asks.Goals as goal

pub invariant_of-self : goal.invariant_of-self
invariant_of-self g c =
    let was : c.in-Some.pass.turn ≡ c.self.inside.turn.now.name = search rules in
    (refl, turn_asked c.self.inside.thread c.in-Some.pass c.ask-pass.result.0 c.args.who.now c.args.asked c.ask-pass.result.1 c.ask-pass.ensures ∙ was)

pub returns-clause-answer : goal.returns-clause-answer
returns-clause-answer g c =
    let old : c.args.self.now.pass ≡ c.in-Some.pass = search rules in
    let on : c.args.self.now.thread ≡ c.self.inside.thread = search rules in
    subst (λ n. Asked n c.args.self.now.pass c.args.who.now c.args.asked c.ask-pass.result.0 c.ask-pass.result.1) (sym on)
    (subst (λ p. Asked c.self.inside.thread p c.args.who.now c.args.asked c.ask-pass.result.0 c.ask-pass.result.1) (sym old) c.ask-pass.ensures)
