use Rattle.std.proofs.Common.{◌≡◌, map, Ok}
use Rattle.std.specs.List.{range_with_len}
use Rattle.jdata.specs.Firsts.{all_or_first}
use Rattle.jframe.specs.Cells.{nth_cell}
use Rattle.jframe.proofs.ranks.each_cell.Given as goal

abbrev pub invariant-loop-at : goal.invariant-loop-at
invariant-loop-at g l = all_or_first (map (λ i. g.V.WholeMonad.meant (nth_cell l.cells.cell l.y.noun i)) (range_with_len 0 l.at)) ≡ Ok l.results
