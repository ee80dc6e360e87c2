use Rattle.std.proofs.Common.{◌≡◌, map, Ok}
use Rattle.std.specs.List.{range_with_len}
use Rattle.jdata.specs.Firsts.{all_or_first}
use Rattle.jframe.specs.Cells.{nth_cell}
use Rattle.jselect.specs.From as choosing
use Rattle.jprim.proofs.looking.look.Given as goal

abbrev pub invariant-loop-at : goal.invariant-loop-at
invariant-loop-at l = all_or_first (map (λ i. choosing.selected (nth_cell l.cells.cell l.x.noun i) l.y.noun) (range_with_len 0 l.at)) ≡ Ok l.results
