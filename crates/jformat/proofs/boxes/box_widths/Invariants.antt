use Rattle.std.proofs.Common.{◌≡◌, map}
use Rattle.std.specs.List.{range_with_len}
use Rattle.jformat.specs.Boxes.{box_width}
use Rattle.jformat.proofs.boxes.box_widths.Given as goal

abbrev pub invariant-loop-column : goal.invariant-loop-column
invariant-loop-column l = l.widths.items ≡ map (box_width l.blocks l.rows l.columns) (range_with_len 0 l.column)
