use Rattle.std.proofs.Common.{◌≡◌, ◌∙◌, ◌-◌}
use Rattle.juses.specs.Program.{Ask}
use Rattle.jplan.specs.Derivations.{again, on_value}
use Rattle.jplan.specs.Plans.{rest}
use Rattle.jplan.specs.Repeating.{times}
use Rattle.jplan.proofs.Going.{with_ok}
use Rattle.jplan.proofs.Repeated.{once_more}
use Rattle.jplan.proofs.repeating.times.Goals as goal

pub returns-clause-rest : goal.returns-clause-rest
returns-clause-rest c =
    let u = c.args.verb.value in
    let n = c.args.count in
    let y = c.args.y in
    with_ok (λ p. rest p ≡ Ask (again u y) (on_value (times u (n - 1)))) (λ p. rest p ≡ times u n y) c.again.result (λ p e. e ∙ once_more u n y c.if-count-eq0.false) c.again.ensures.rest
