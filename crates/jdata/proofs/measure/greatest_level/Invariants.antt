use Rattle.std.proofs.Common.{◌≡◌, drop, max}
use Rattle.jdata.proofs.Levels.{greatest_of}
use Rattle.jdata.proofs.measure.greatest_level.Given as goal

abbrev pub invariant-loop-cell : goal.invariant-loop-cell
invariant-loop-cell l = max l.greatest (greatest_of (drop l.cell-index l.cells)) ≡ greatest_of l.cells
