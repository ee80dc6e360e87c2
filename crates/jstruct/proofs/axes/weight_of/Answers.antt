use Rattle.std.proofs.Common.{◌+◌}
use Rattle.jdata.specs.Limits.{most_atoms}
use Rattle.jstruct.proofs.Ordering.{extent_behind}
use Rattle.jstruct.proofs.axes.weight_of.Goals as goal

pub product_of-requires : goal.product_of-requires
product_of-requires c = extent_behind c.args.axes.now (c.args.axis + 1) most_atoms c.requires.shape.extent_at_most
