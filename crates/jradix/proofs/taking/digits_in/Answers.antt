use Rattle.std.proofs.Common.{subst}
use Rattle.jdata.specs.Answers.{Answers}
use Rattle.jradix.proofs.Values.{digits_by_numbers, no_digits, no_digits_right}
use Rattle.jradix.proofs.taking.digits_in.Goals as goal

pub returns-in-None : goal.returns-in-None
returns-in-None c = no_digits c.args.x.now.noun c.args.y.now.noun c.in-None.ensures.none

pub returns-in-Some-numbers : goal.returns-in-Some-numbers
returns-in-Some-numbers c =
    subst (λ meant. Answers meant c.digits_of.result)
    (digits_by_numbers c.args.x.now.noun c.args.y.now.noun c.in-Some.bases.now c.in-Some-numbers.numbers.now c.in-Some.ensures.integers c.in-Some-numbers.ensures.integers c.in-Some.ensures.some c.in-Some-numbers.ensures.some)
    c.digits_of.ensures

pub returns-in-None-numbers : goal.returns-in-None-numbers
returns-in-None-numbers c = no_digits_right c.args.x.now.noun c.args.y.now.noun c.in-None-numbers.ensures.none
