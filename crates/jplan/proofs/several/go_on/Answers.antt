use Rattle.std.proofs.Common.{◌≡◌, ◌∙◌, ◌+◌, ◌<◌, ◌++◌, ◌∷◌, [], ap, arith}
use Rattle.jdata.specs.Noun.{product}
use Rattle.juses.specs.Program.{Ask}
use Rattle.jplan.specs.Derivations.{on, on_value}
use Rattle.jplan.specs.Plans.{rest}
use Rattle.jplan.specs.Several.{Pair, from_on, several_of}
use Rattle.jplan.proofs.Going.{one_more, with_ok}
use Rattle.jplan.proofs.several.go_on.Goals as goal

pub returns-clause-rest : goal.returns-clause-rest
returns-clause-rest c =
    let s = several_of c.args.parts in
    let u = c.args.verb.now in
    let end : c.product.result ≡ product s.frame = c.product.ensures ∙ ap product c.frame.ensures in
    let below : c.args.at < product s.frame = omega (arith, c.requires.within, c.if-at-product.false, end) in
    let next = on_value (λ value. from_on u s (c.args.at + 1) (c.args.results ++ value ∷ [])) in
    let is = ap (λ (q : Pair). Ask (on u q.0 q.1) next) c.in_ok-x.ensures ∙ one_more u s c.args.at c.args.results below in
    with_ok (λ p. rest p ≡ Ask (on u c.in_ok-x.x c.in_ok-x.y) next) (λ p. rest p ≡ from_on u s c.args.at c.args.results) c.awaiting.result (λ p e. e ∙ is) c.awaiting.ensures.rest
