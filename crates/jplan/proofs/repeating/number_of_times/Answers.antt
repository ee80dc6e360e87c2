use Rattle.std.proofs.Common.{◌≡◌, ◌∙◌, ap, rules}
use Rattle.std.specs.Prelude.{FitsSigned}
use Rattle.std.proofs.lemmas.Int.{to_z-of_z}
use mir.Syntax.{w64}
use Rattle.jsplit.specs.Undoing.{obverse}
use Rattle.jplan.specs.Derivations.{given}
use Rattle.jplan.specs.Plans.{rest}
use Rattle.jplan.specs.Repeating.{number_of_times, times}
use Rattle.jplan.proofs.Going.{with_ok}
use Rattle.jplan.proofs.Repeated.{below_0}
use Rattle.jplan.proofs.repeating.number_of_times.Goals as goal

pub returns-then-number-lt0-clause-rest : goal.returns-then-number-lt0-clause-rest
returns-then-number-lt0-clause-rest c =
    let u = c.args.verb.value in
    let k = c.args.number in
    let y = c.args.y in
    let fits : FitsSigned w64 k = search rules in
    let test = simp to_z-of_z at c.if-number-lt0.true in
    let size = simp to_z-of_z at c.unsigned_abs-count.ensures.value in
    let of = c.deref.ensures in
    with_ok (λ p. rest p ≡ given (obverse c.deref.result.now) (λ v. times v c.unsigned_abs-count.result y)) (λ p. rest p ≡ number_of_times u k y) c.undone.result
    (λ p e. e ∙ (λ i. given (obverse (of i)) (λ v. times v (size i) y)) ∙ below_0 u k y test) c.undone.ensures.rest
