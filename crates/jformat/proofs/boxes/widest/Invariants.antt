use Rattle.std.proofs.Common.{◌≡◌, drop, max}
use Rattle.jformat.specs.Boxes.{widest}
use Rattle.jformat.proofs.boxes.widest.Given as goal

abbrev pub invariant-loop-row : goal.invariant-loop-row
invariant-loop-row l = max l.width (widest (drop l.row-index l.rows)) ≡ widest l.rows
