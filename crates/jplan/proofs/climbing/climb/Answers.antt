use Rattle.std.proofs.Common.{◌≡◌, ◌∙◌, ◌-◌, ◌≤◌, ◌++◌, ◌∷◌, [], List, length, ap, arith}
use Rattle.jdata.specs.declared.noun.Noun.{Noun}
use Rattle.juses.specs.Program.{Ask, Return}
use Rattle.jplan.specs.Derivations.{again, on_value}
use Rattle.jplan.specs.Plans.{rest, left_of}
use Rattle.jplan.specs.Repeating.{climb, kept, picked, with_value}
use Rattle.jplan.proofs.Going.{with_ok}
use Rattle.jplan.proofs.Repeated.{one_step, no_step}
use Rattle.jplan.proofs.climbing.climb.Goals as goal

pub returns-then-left-eq0-clause-rest : goal.returns-then-left-eq0-clause-rest
returns-then-left-eq0-clause-rest c =
    let u = c.args.verb.value in
    let f = c.args.steps.frame in
    let cs = c.args.steps.counts in
    let both = c.in_ok-y.ensures in
    let kept_is : c.in_ok-y.value ≡ kept cs (length c.args.values) c.args.y = both.1 ∙ (λ i. kept (c.items-2.ensures i) (length (c.items.ensures i)) c.args.y) in
    let pushed : c.push.new.self ≡ with_value cs c.args.values c.args.y = c.in_ok-push.ensures.ok ∙ ap (λ v. c.args.values ++ v ∷ []) kept_is in
    let is = c.items-then-left-eq0.ensures ∙ pushed in
    with_ok (λ p. rest p ≡ Return (picked f cs c.items-then-left-eq0.result.now)) (λ p. rest p ≡ climb u f cs c.args.left c.args.values c.args.y) c.picked.result
    (λ p e. e ∙ ap (λ (vs : List Noun). Return (picked f cs vs)) is ∙ no_step u f cs c.args.left c.args.values c.args.y c.if-left-eq0.true) c.picked.ensures.rest

pub returns-then-left-eq0-clause-left : goal.returns-then-left-eq0-clause-left
returns-then-left-eq0-clause-left c =
    with_ok (λ p. left_of p ≡ 0) (λ p. left_of p ≤ c.args.left) c.picked.result (λ p e. omega (arith, e)) c.picked.ensures.left

pub returns-clause-rest : goal.returns-clause-rest
returns-clause-rest c =
    let u = c.args.verb.value in
    let f = c.args.steps.frame in
    let cs = c.args.steps.counts in
    let n = c.args.left in
    let both = c.in_ok-y.ensures in
    let kept_is : c.in_ok-y.value ≡ kept cs (length c.args.values) c.args.y = both.1 ∙ (λ i. kept (c.items-2.ensures i) (length (c.items.ensures i)) c.args.y) in
    let pushed : c.push.new.self ≡ with_value cs c.args.values c.args.y = c.in_ok-push.ensures.ok ∙ ap (λ v. c.args.values ++ v ∷ []) kept_is in
    let step : Noun → List Noun → _ = λ y vs. Ask (again u y) (on_value (climb u f cs (n - 1) vs)) in
    with_ok (λ p. rest p ≡ step c.in_ok-y.y c.push.new.self) (λ p. rest p ≡ climb u f cs n c.args.values c.args.y) c.again.result
    (λ p e. e ∙ (λ i. step (both.0 i) (pushed i)) ∙ one_step u f cs n c.args.values c.args.y c.if-left-eq0.false) c.again.ensures.rest
