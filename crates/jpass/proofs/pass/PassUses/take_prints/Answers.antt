use Rattle.std.proofs.Common.{rules, ◌≡◌, refl, sym, subst, ◌∙◌, []}
use Rattle.jpass.specs.Used.{HandedOut}
use Rattle.jpass.proofs.pass.PassUses.take_prints.Goals as goal

pub invariant_of-self : goal.invariant_of-self
invariant_of-self g c =
    let was : c.in-Some.pass.turn ≡ c.self.inside.turn.now.name = search rules in
    (refl, (c.hand_out-pass.ensures.0 0 []).grew.turn ∙ was)

pub returns-clause-leads : goal.returns-clause-leads
returns-clause-leads g c =
    let old : c.args.self.now.pass ≡ c.in-Some.pass = search rules in
    let a : HandedOut c.args.self.now.pass c.hand_out-pass.result.0 c.hand_out-pass.result.1 = subst (λ p. HandedOut p c.hand_out-pass.result.0 c.hand_out-pass.result.1) (sym old) c.hand_out-pass.ensures in
    (a.0 c.args.self.now.thread c.args.self.now.helped, search rules, search rules)
