use Rattle.std.proofs.Common.{◌≡◌, ◌*◌, ◌≤◌, take, sum}
use Rattle.jformat.proofs.widths.row_width.Given as goal

abbrev pub invariant-loop-column : goal.invariant-loop-column
invariant-loop-column l = record {
  so_far : l.width ≡ sum (take l.column-index l.widths);
  at_most : l.width ≤ 255 * l.column-index;
}
