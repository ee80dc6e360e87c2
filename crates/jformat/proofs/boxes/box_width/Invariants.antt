use Rattle.std.proofs.Common.{◌≡◌}
use Rattle.jformat.specs.Boxes.{box_width}
use Rattle.jformat.proofs.boxes.box_width.Given as goal

abbrev pub invariant-loop-row : goal.invariant-loop-row
invariant-loop-row l = l.width ≡ box_width l.blocks l.row l.columns l.column
