use Rattle.std.proofs.Common.{◌≡◌, take}
use Rattle.jformat.specs.Boxes.{frame_row}
use Rattle.jformat.proofs.boxes.frame_row.Given as goal

abbrev pub invariant-loop-width : goal.invariant-loop-width
invariant-loop-width l = l.row.items ≡ frame_row (take l.width-index l.widths)
