use Rattle.std.proofs.Common.{◌≡◌, map, reverse}
use Rattle.std.specs.List.{range_with_len}
use Rattle.jframe.specs.Cells.{nth_cell}
use Rattle.jplan.proofs.modifiers.cells_back.Given as goal

abbrev pub invariant-loop-at : goal.invariant-loop-at
invariant-loop-at l = l.items ≡ reverse (map (nth_cell l.cells.cell l.y.noun) (range_with_len 0 l.at))
