use Rattle.std.proofs.Common.{arith}
use Rattle.jdata.proofs.Extents.{parts_are_within}
use Rattle.jsearch.proofs.cells.count_of.Goals as goal

pub product_of-requires : goal.product_of-requires
product_of-requires c =
    let small = (parts_are_within c.args.cells.frame c.args.cells.axes.now).0 in
    let bound = c.requires.array.within.extent_at_most in
    omega (arith, small, bound)
