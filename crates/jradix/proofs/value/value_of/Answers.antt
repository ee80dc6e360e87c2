use Rattle.std.proofs.Common.{◌∙◌, ap}
use Rattle.jdata.specs.Noun.{shape}
use Rattle.jselect.specs.Picking.{is_alone}
use Rattle.jradix.specs.Bases.{value_in}
use Rattle.jradix.proofs.Values.{value_by_numbers, no_value, no_value_right}
use Rattle.jradix.proofs.value.value_of.Goals as goal

pub returns-in-Some-Some : goal.returns-in-Some-Some
returns-in-Some-Some c =
    let x = c.args.x.now.noun in
    let y = c.args.y.now.noun in
    let bases = c.in-Some-Some.bases.now in
    let digits = c.in-Some-Some.digits.now in
    c.value_in.ensures
    ∙ ap (λ alone. value_in alone bases c.is_alone-one_digit.result digits) (c.is_alone-one_base.ensures ∙ ap is_alone c.shape.ensures.value)
    ∙ ap (λ alone. value_in (is_alone (shape x)) bases alone digits) (c.is_alone-one_digit.ensures ∙ ap is_alone c.shape-2.ensures.value)
    ∙ value_by_numbers x y bases digits c.in-Some-Some.ensures.integers c.in-Some-Some.ensures'.integers c.in-Some-Some.ensures.some c.in-Some-Some.ensures'.some

pub returns-in_default : goal.returns-in_default
returns-in_default c = no_value_right c.args.x.now.noun c.args.y.now.noun c.in_default.ensures'.none

pub returns-in_default-2 : goal.returns-in_default-2
returns-in_default-2 c = no_value c.args.x.now.noun c.args.y.now.noun c.in_default.ensures.none
