use Rattle.std.proofs.Common.{◌≡◌, ◌∙◌, List, ℕ, length, map, None, ap, sym}
use Rattle.jdata.specs.Noun.{shape}
use Rattle.jselect.specs.Arguments.{count_of}
use Rattle.jplan.specs.Plans.{rest}
use Rattle.jplan.specs.Repeating.{listed, powered_by}
use Rattle.jplan.proofs.Going.{with_ok}
use Rattle.jplan.proofs.Repeated.{shape_refused, numbers_refused, list_given}
use Rattle.jplan.proofs.climbing.listed.Goals as goal

pub returns-then-shape-ne1-clause-rest : goal.returns-then-shape-ne1-clause-rest
returns-then-shape-ne1-clause-rest c =
    shape_refused c.args.verb.value c.args.list.now.noun c.args.y c.in-Some.ensures.integers (λ one. c.if-shape-ne1.true (ap length c.shape.ensures.value ∙ one))

pub returns-then-not-are_counts-clause-rest : goal.returns-then-not-are_counts-clause-rest
returns-then-not-are_counts-clause-rest c =
    numbers_refused c.args.verb.value c.args.list.now.noun c.args.y c.in-Some.numbers.now c.in-Some.ensures.integers c.in-Some.ensures.some (sym c.are_counts.ensures ∙ c.if-not-are_counts.true)

pub returns-in-Ok-clause-rest : goal.returns-in-Ok-clause-rest
returns-in-Ok-clause-rest c =
    let u = c.args.verb.value in
    let v = c.args.list.now.noun in
    let l = c.in-Some.numbers.now in
    let y = c.args.y in
    let frame_is : c.in-Ok.frame ≡ shape v = c.in-Ok.ensures.ok ∙ c.shape-2.ensures.value in
    with_ok (λ p. rest p ≡ listed u c.in-Ok.frame (map count_of l) y) (λ p. rest p ≡ powered_by u None v y) c.run.result
    (λ p e. e ∙ ap (λ (f : List ℕ). listed u f (map count_of l) y) frame_is ∙ list_given u v y l c.in-Some.ensures.integers c.in-Some.ensures.some (sym (ap length c.shape.ensures.value) ∙ c.if-shape-ne1.false) (sym c.are_counts.ensures ∙ c.if-not-are_counts.false)) c.run.ensures.rest
