use Rattle.std.proofs.Common.{ap, sym, subst, ◌∙◌}
use Rattle.std.proofs.lemmas.Bool.{eqb-true, eqb-false}
use Rattle.jdata.specs.Firsts.{and_then}
use Rattle.jdata.specs.Noun.{shape}
use Rattle.jarray.specs.Placed.{Gives}
use Rattle.jstruct.specs.Laying.{turned, turned_by}
use Rattle.jstruct.proofs.Changing.{the_numbers, no_numbers, turned_alone, turned_along}
use Rattle.jstruct.proofs.taking.rotate.Goals as goal

pub returns-in_default : goal.returns-in_default
unfolding turned
returns-in_default c = ap (λ r. and_then r (λ xs. turned_by xs c.args.y.noun (shape c.args.y.noun))) (no_numbers c.args.x.noun c.in_default.ensures.none)

pub returns-then-is_empty : goal.returns-then-is_empty
unfolding turned
returns-then-is_empty c =
    ap (λ r. and_then r (λ xs. turned_by xs c.args.y.noun (shape c.args.y.noun))) (the_numbers c.args.x.noun c.in-Some.numbers.now c.in-Some.ensures.some c.in-Some.ensures.integers)
    ∙ turned_alone c.in-Some.numbers.now c.args.y.noun c.shape.result.now (sym c.shape.ensures.value) (eqb-true _ _ (sym c.is_empty.ensures ∙ c.if-is_empty.true))

pub returns : goal.returns
unfolding turned
returns c =
    subst (λ m. Gives m c.changed.result)
    (sym (ap (λ r. and_then r (λ xs. turned_by xs c.args.y.noun (shape c.args.y.noun))) (the_numbers c.args.x.noun c.in-Some.numbers.now c.in-Some.ensures.some c.in-Some.ensures.integers)
    ∙ turned_along c.in-Some.numbers.now c.args.y.noun c.shape.result.now (sym c.shape.ensures.value) (eqb-false _ _ (sym c.is_empty.ensures ∙ c.if-is_empty.false))))
    c.changed.ensures
