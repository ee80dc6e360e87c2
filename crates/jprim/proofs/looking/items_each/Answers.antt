use Rattle.std.proofs.Common.{arith, ap, sym, subst, ◌∙◌, ◌≤◌, length, Ok, Err, ◌≡◌}
use Rattle.std.proofs.lemmas.Bool.{eqb-false}
use Rattle.jarray.specs.Placed.{Placed}
use Rattle.jdata.specs.Answers.{Answers}
use Rattle.jdata.specs.declared.noun.Noun.{Noun}
use Rattle.jselect.specs.Listing.{items_named}
use Rattle.jprim.proofs.NamedItems.{items_are}
use Rattle.jprim.proofs.looking.items_each.Goals as goal

pub returns-in-Ok : goal.returns-in-Ok
returns-in-Ok c =
    let numbers = c.in_ok-numbers.numbers.now in
    let filled : length numbers ≡ 0 → ⊥ = eqb-false _ _ (sym c.is_empty.ensures ∙ c.if-is_empty.false) in
    let some : 1 ≤ length numbers = omega arith in
    let is = items_are c.args.x.now.noun c.args.y.now.noun numbers c.shape.ensures.array c.shape-shape.ensures.array c.in_ok-numbers.ensures.some some in
    is
    ∙ ap (λ axes. items_named axes numbers c.args.y.now.noun) (sym c.shape.ensures.value)
    ∙ c.in-Ok.ensures
    ∙ ap (λ (p : Placed). Ok p.noun) (sym c.of.ensures)

pub returns-in-Err : goal.returns-in-Err
returns-in-Err c =
    let numbers = c.in_ok-numbers.numbers.now in
    let filled : length numbers ≡ 0 → ⊥ = eqb-false _ _ (sym c.is_empty.ensures ∙ c.if-is_empty.false) in
    let some : 1 ≤ length numbers = omega arith in
    let is = items_are c.args.x.now.noun c.args.y.now.noun numbers c.shape.ensures.array c.shape-shape.ensures.array c.in_ok-numbers.ensures.some some in
    subst (λ r. Answers {Value = Noun} r (Err c.in-Err.trouble))
    (sym (is ∙ ap (λ axes. items_named axes numbers c.args.y.now.noun) (sym c.shape.ensures.value)))
    c.in-Err.ensures
