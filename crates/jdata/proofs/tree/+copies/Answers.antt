use Rattle.std.proofs.Common.{arith}
use Rattle.jdata.proofs.Sizes.{cells_within}
use Rattle.jdata.proofs.tree.+copies.Goals as goal

pub Leaves::copy-copy_cells-requires : goal.Leaves::copy-copy_cells-requires
Leaves::copy-copy_cells-requires t c = (omega (arith, cells_within _ _ _ c.in-Cell.is c.items.ensures), tt)
