use Rattle.std.proofs.Common.{map, pos, sym, subst, ap, ◌∙◌, length, ◌∷◌, [], arith}
use Rattle.jdata.specs.Answers.{Answers}
use Rattle.jselect.specs.Listing.{items_named}
use Rattle.jsearch.specs.Grades.{graded, items_in}
use Rattle.jsearch.specs.Order.{in_direction}
use Rattle.jsearch.proofs.Graded.{grade_refused, sort_given}
use Rattle.jsearch.proofs.grading.sort.Goals as goal

pub returns-in-Err : goal.returns-in-Err
returns-in-Err c = grade_refused (map pos) (items_in c.args.x.now.noun) (graded (in_direction c.args.direction) c.args.y.now.noun) c.in-Err.trouble c.in-Err.ensures.places

pub items_named-requires : goal.items_named-requires
items_named-requires c = let same = ap length (c.items-2.ensures ∙ sym c.items.ensures) in omega (arith, same)

pub returns : goal.returns
returns c =
    let x = c.args.x.now.noun in
    subst (λ m. Answers m c.items_named.result)
    ((λ i. items_named (length (c.items.ensures i) ∷ []) (c.items-2.ensures i) x) ∙ sym (sort_given x (graded (in_direction c.args.direction) c.args.y.now.noun) c.in-Ok.places c.in-Ok.ensures.places))
    c.items_named.ensures
