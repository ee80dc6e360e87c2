use Rattle.std.proofs.Common.{arith, ap, length}
use Rattle.std.proofs.lemmas.List.{take_rest}
use Rattle.jdata.specs.Noun.{extent}
use Rattle.jdata.proofs.Extents.{parts_are_within}
use Rattle.jframe.proofs.pairs.repeats.Goals as goal

pub product_of-requires : goal.product_of-requires
product_of-requires c =
    let axes = c.axes-axes.result.now in
    let n = length c.axes.result.now in
    omega (arith, ap extent (take_rest axes n), (parts_are_within n axes).1, c.axes-axes.ensures.shape.extent_at_most)
