use Rattle.std.proofs.Common.{sym, ◌∙◌, subst}
use Rattle.jarray.specs.Placed.{Gives}
use Rattle.jdyad.proofs.Wholes.{listed, unlisted}
use Rattle.jdyad.proofs.scalar.scalar2.Goals as goal

pub returns-then-is_scalar-clause-answer : goal.returns-then-is_scalar-clause-answer
returns-then-is_scalar-clause-answer c =
    subst (λ r. Gives r c.of_scalar.result) (sym (listed c.args.verb c.args.x.noun c.args.y.noun (sym c.is_scalar.ensures ∙ c.if-is_scalar.true))) c.of_scalar.ensures.answer

pub returns-else-is_scalar-clause-answer : goal.returns-else-is_scalar-clause-answer
returns-else-is_scalar-clause-answer c = unlisted c.args.verb c.args.x.noun c.args.y.noun (sym c.is_scalar.ensures ∙ c.if-is_scalar.false)
