use Rattle.std.proofs.Common.{◌≡◌, take}
use Rattle.jdata.proofs.tree.+copies.Given as goal

abbrev pub invariant-copies::copy_cells-loop-cell : goal.invariant-copies::copy_cells-loop-cell
invariant-copies::copy_cells-loop-cell l = l.copies.items ≡ take l.cell-index l.cells
