use Rattle.std.proofs.Common.{◌≡◌, take}
use Rattle.jformat.specs.Rows.{lines_of}
use Rattle.jformat.proofs.showing.display_rows.Given as goal

abbrev pub invariant-loop-row : goal.invariant-loop-row
invariant-loop-row l = l.out.items ≡ lines_of (take l.row-index l.rows)
