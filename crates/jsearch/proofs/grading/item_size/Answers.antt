use Rattle.std.proofs.Common.{◌≤◌, arith, subst, sym}
use Rattle.std.proofs.lemmas.List.{take_rest}
use Rattle.jdata.specs.Limits.{most_atoms}
use Rattle.jdata.specs.Noun.{extent}
use Rattle.jdata.proofs.Extents.{parts_are_within}
use Rattle.jsearch.proofs.grading.item_size.Goals as goal

pub product_of-requires : goal.product_of-requires
product_of-requires c =
    let small = (parts_are_within c.args.cells.frame c.args.cells.axes.now).1 in
    let bound = c.requires.array.within.extent_at_most in
    subst (λ l. extent l ≤ most_atoms) (sym (take_rest c.args.cells.axes.now c.args.cells.frame)) (omega (arith, small, bound))
