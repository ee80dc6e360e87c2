use Rattle.std.proofs.Common.{◌≤◌, arith, rules, Fits, w64}
use Rattle.jplan.specs.Plans.{left_of, most_counted}
use Rattle.jplan.proofs.Going.{with_ok}
use Rattle.jplan.proofs.climbing.run.Goals as goal

pub returns-clause-left : goal.returns-clause-left
returns-clause-left c =
    let fits : Fits w64 c.most_of-most.result = search rules in
    with_ok (λ p. left_of p ≤ c.most_of-most.result) (λ p. left_of p ≤ most_counted) c.climb.result (λ p e. omega (arith, e, fits)) c.climb.ensures.left
