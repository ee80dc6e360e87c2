use Rattle.std.proofs.Common.{map, pos, Ok, ◌∷◌, [], sym, ap, subst, length, ◌∙◌}
use Rattle.jdata.specs.Limits.{IsShape}
use Rattle.jdata.specs.Noun.{product}
use Rattle.jsearch.specs.Grades.{graded}
use Rattle.jsearch.specs.Order.{in_direction}
use Rattle.jsearch.specs.Steps.{place_list}
use Rattle.jsearch.proofs.Graded.{grade_refused, grade_given, one_axis_is_shape}
use Rattle.jsearch.proofs.Made.{one_axis}
use Rattle.jsearch.proofs.grading.grade.Goals as goal

pub returns-in-Err : goal.returns-in-Err
returns-in-Err c = grade_refused (map pos) (λ places. Ok (place_list places)) (graded (in_direction c.args.direction) c.args.y.now.noun) c.in-Err.trouble c.in-Err.ensures.places

pub integers-requires-clause-shape : goal.integers-requires-clause-shape
integers-requires-clause-shape c =
    subst IsShape (sym (c.in_ok-shape.ensures.items ∙ ap (λ l. length l ∷ []) c.items.ensures)) (one_axis_is_shape (length c.in-Ok.places) c.in-Ok.ensures.few)

pub integers-requires-clause-whole : goal.integers-requires-clause-whole
integers-requires-clause-whole c = sym (one_axis (length c.in-Ok.places)) ∙ ap product (sym (c.in_ok-shape.ensures.items ∙ ap (λ l. length l ∷ []) c.items.ensures))

pub returns : goal.returns
returns c =
    grade_given (graded (in_direction c.args.direction) c.args.y.now.noun) c.in-Ok.places c.in_ok-shape.shape.items c.integers.result c.in-Ok.ensures.places
    (c.in_ok-shape.ensures.items ∙ ap (λ l. length l ∷ []) c.items.ensures) c.integers.ensures
