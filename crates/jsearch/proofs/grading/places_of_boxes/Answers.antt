use Rattle.std.proofs.Common.{refl, arith, ◌∙◌}
use Rattle.jdata.specs.declared.noun.Atom.TheVariants as atom
use Rattle.jsearch.specs.Order.{in_direction}
use Rattle.jsearch.proofs.Graded.{nothing_has_order, nothing_is, boxes_have_none, not_graded}
use Rattle.jsearch.proofs.grading.places_of_boxes.Goals as goal

pub returns-then-boxes-eq0 : goal.returns-then-boxes-eq0
returns-then-boxes-eq0 c = λ y has boxed many.
    c.places_of_integers.ensures y has (nothing_has_order y (many ∙ c.if-boxes-eq0.true)) (nothing_is atom.Int y c.args.boxes many c.if-boxes-eq0.true)

pub returns-else-boxes-eq0 : goal.returns-else-boxes-eq0
returns-else-boxes-eq0 c = λ y has boxed many.
    not_graded (in_direction c.args.direction) y _ (boxes_have_none y boxed (omega arith)) refl
