use Rattle.std.proofs.Common.{◌≡◌, take}
use Rattle.std.specs.List.{flat_map}
use Rattle.jformat.specs.Boxes.{padded}
use Rattle.jformat.proofs.formatting.matrix_of_rows.Given as goal

abbrev pub invariant-loop-row : goal.invariant-loop-row
invariant-loop-row l = l.text.items ≡ flat_map (padded l.width) (take l.row-index l.rows)
