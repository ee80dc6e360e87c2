use Rattle.std.proofs.Common.{◌≡◌, ◌/◌, map, Ok}
use Rattle.std.specs.List.{range_with_len}
use Rattle.jdata.specs.Firsts.{all_or_first}
use Rattle.jshape.specs.Agreement.{repeated}
use Rattle.jframe.specs.Cells.{nth_cell}
use Rattle.jframe.proofs.pairs.each_pair.Given as goal

abbrev pub invariant-loop-at : goal.invariant-loop-at
invariant-loop-at g l =
    all_or_first (map (λ i. g.V.WholeDyad.meant (nth_cell l.pairs.left.cell l.x.noun (i / repeated l.pairs.left.frame l.pairs.frame)) (nth_cell l.pairs.right.cell l.y.noun (i / repeated l.pairs.right.frame l.pairs.frame))) (range_with_len 0 l.at))
    ≡ Ok l.results
