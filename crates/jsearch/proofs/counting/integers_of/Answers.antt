use Rattle.std.proofs.Common.{subst}
use Rattle.jdata.specs.Answers.{Answers}
use Rattle.jsearch.proofs.Made.{integers_by, no_integers}
use Rattle.jsearch.proofs.counting.integers_of.Goals as goal

pub returns-in-Some : goal.returns-in-Some
returns-in-Some c =
    subst (λ m. Answers m c.places_turned.result) (integers_by c.args.y.now.noun c.in-Some.numbers.now c.in-Some.ensures.integers c.in-Some.ensures.some) c.places_turned.ensures

pub returns-in-None : goal.returns-in-None
returns-in-None c = no_integers c.args.y.now.noun c.in-None.ensures.none
