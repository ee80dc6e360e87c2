use Rattle.std.proofs.Common.{sym, subst}
use Rattle.jdata.specs.Answers.{Answers}
use Rattle.jsearch.proofs.Made.{steps_by, no_steps}
use Rattle.jsearch.proofs.stepping.steps_of.Goals as goal

pub returns-in-Some : goal.returns-in-Some
returns-in-Some c =
    subst (λ m. Answers m c.first_steps.result) (sym (steps_by c.args.y.now.noun c.in-Some.numbers.now c.in-Some.ensures.integers c.in-Some.ensures.some)) c.first_steps.ensures

pub returns-in-None : goal.returns-in-None
returns-in-None c = no_steps c.args.y.now.noun c.in-None.ensures.none
