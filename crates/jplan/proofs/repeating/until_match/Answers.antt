use Rattle.std.proofs.Common.{◌≡◌, ◌∙◌, ◌-◌, if◌then◌else◌, Ok}
use Rattle.jarray.specs.Matches.{matches}
use Rattle.jdata.specs.declared.noun.Noun.{Noun}
use Rattle.juses.specs.Program.{Ask, Return}
use Rattle.jplan.specs.Derivations.{Derivation, again, on_value}
use Rattle.jplan.specs.Plans.{rest}
use Rattle.jplan.specs.Repeating.{until_match}
use Rattle.jplan.proofs.Going.{with_ok}
use Rattle.jplan.proofs.Repeated.{once_compared}
use Rattle.jplan.proofs.repeating.until_match.Goals as goal

pub returns-clause-rest : goal.returns-clause-rest
returns-clause-rest c =
    let u = c.args.verb.value in
    let n = c.args.count in
    let y = c.args.y in
    let step : Noun → Noun → Derivation = λ b z. Ask (again u z) (on_value (λ v. if matches v b then Return (Ok v) else until_match u (n - 1) v)) in
    let both = c.in_ok-before.ensures in
    with_ok (λ p. rest p ≡ step c.in_ok-before.before c.in_ok-before.y) (λ p. rest p ≡ until_match u n y) c.again.result (λ p e. e ∙ (λ i. step (both.0 i) (both.1 i)) ∙ once_compared u n y c.if-count-eq0.false) c.again.ensures.rest
