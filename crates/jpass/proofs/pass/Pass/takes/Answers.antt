use Rattle.std.proofs.Common.{rules, ◌≡◌, refl, sym, subst, ◌∙◌}
use Rattle.jpass.proofs.Passes.{turn_sought}
use Rattle.jpass.specs.Used.{Sought, Refused}
use Rattle.jpass.proofs.pass.Pass.takes.Goals as goal

pub invariant_of-self : goal.invariant_of-self
invariant_of-self g c =
    let was : c.in-Some.pass.turn ≡ c.self.inside.turn.now.name = search rules in
    (refl, turn_sought c.self.inside.thread c.in-Some.pass c.take-pass.result.0 c.args.why.now c.take-pass.result.1 c.take-pass.ensures ∙ was)

pub returns-clause-answer : goal.returns-clause-answer
returns-clause-answer g c =
    let old : c.args.self.now.pass ≡ c.in-Some.pass = search rules in
    let on : c.args.self.now.thread ≡ c.self.inside.thread = search rules in
    subst (λ n. Sought Refused n c.args.self.now.pass c.args.why.now c.take-pass.result.0 c.take-pass.result.1) (sym on)
    (subst (λ p. Sought Refused c.self.inside.thread p c.args.why.now c.take-pass.result.0 c.take-pass.result.1) (sym old) c.take-pass.ensures)
