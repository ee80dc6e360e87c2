use Rattle.std.proofs.Common.{◌≤◌, ◌+◌, ◌*◌, arith, ap, sym, ◌∙◌, subst, length}
use Rattle.jdata.specs.Limits.{most_atoms}
use Rattle.jdata.specs.Noun.{extent, product}
use Rattle.jdata.proofs.Arrays.{few_atoms}
use Rattle.jselect.specs.Views.{noun_in}
use Rattle.jselect.proofs.Cells.{range_fits, rest_is_shape}
use Rattle.jdata.specs.Leaf.{atoms_in}
use Rattle.jselect.proofs.view.nth_cell.Goals as goal

pub product_of-count-requires : goal.product_of-count-requires
product_of-count-requires c =
    subst (λ l. extent l ≤ most_atoms) (sym c.rest-axes.ensures) (rest_is_shape c.args.frame c.args.view.axes.now c.requires.array.within).extent_at_most

pub overflow_mul-number : goal.overflow_mul-number
overflow_mul-number c =
    let fits = range_fits (noun_in c.args.view) c.args.frame c.args.number c.requires.array c.requires.number in
    let few = few_atoms (noun_in c.args.view) c.requires.array in
    let count = c.product_of-count.ensures ∙ ap product c.rest-axes.ensures in
    let product_is = ap (λ n. c.args.number * n) count in
    omega (arith, fits, few, product_is)

pub range_of-requires : goal.range_of-requires
range_of-requires c =
    let fits = range_fits (noun_in c.args.view) c.args.frame c.args.number c.requires.array c.requires.number in
    let count = c.product_of-count.ensures ∙ ap product c.rest-axes.ensures in
    subst (λ n. c.args.number * n + n ≤ length (atoms_in c.args.view.atoms)) (sym count) fits
