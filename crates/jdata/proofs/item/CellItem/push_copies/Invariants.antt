use Rattle.std.proofs.Common.{◌≡◌, ◌++◌, take}
use Rattle.jdata.proofs.item.CellItem.push_copies.Given as goal

abbrev pub invariant-loop-cell : goal.invariant-loop-cell
invariant-loop-cell l = l.into.items ≡ l.initial.into.items ++ take l.cell-index l.items
