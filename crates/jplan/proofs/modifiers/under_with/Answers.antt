use Rattle.std.proofs.Common.{◌≡◌, ◌∙◌, ap, sym, rules, Option, None, Some}
use Rattle.jdata.specs.declared.noun.Noun.{Noun}
use Rattle.jterm.specs.declared.term.Term.{Term}
use Rattle.jplan.specs.Modifiers.{under}
use Rattle.jplan.proofs.modifiers.under_with.Goals as goal

pub returns-in-None : goal.returns-in-None
returns-in-None c =
    let none : c.args.x ≡ None = search rules in
    c.under_one.ensures ∙ ap (λ (w : Term). under c.args.left.now c.args.right.now w None c.args.y) c.in_ok-undo.ensures.ok ∙ ap (λ (o : Option Noun). under c.args.left.now c.args.right.now c.args.undo o c.args.y) (sym none)

pub returns-in-Some : goal.returns-in-Some
returns-in-Some c =
    let there : c.args.x ≡ Some c.in-Some.x = search rules in
    c.under_two.ensures ∙ ap (λ (w : Term). under c.args.left.now c.args.right.now w (Some c.in-Some.x) c.args.y) c.in_ok-undo.ensures.ok ∙ ap (λ (o : Option Noun). under c.args.left.now c.args.right.now c.args.undo o c.args.y) (sym there)
