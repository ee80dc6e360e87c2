use Rattle.std.proofs.Common.{◌≡◌, map, Ok}
use Rattle.std.specs.List.{range_with_len}
use Rattle.jdata.specs.Firsts.{all_or_first}
use Rattle.jframe.specs.Cells.{nth_cell}
use Rattle.jeval.specs.Targets as targets
use Rattle.jeval.proofs.targets.each_opened.Given as goal

abbrev pub invariant-loop-at : goal.invariant-loop-at
invariant-loop-at l = all_or_first (map (λ i. targets.opened (nth_cell l.cells.cell l.y.noun i)) (range_with_len 0 l.at)) ≡ Ok l.values
