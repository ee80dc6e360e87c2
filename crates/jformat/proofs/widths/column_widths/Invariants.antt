use Rattle.std.proofs.Common.{◌≡◌, ◌<◌, ℕ, length, map, slice_index}
use Rattle.jnumber.specs.Spelling.{written}
use Rattle.jformat.specs.Rows.{width_of}
use Rattle.jformat.proofs.widths.column_widths.Given as goal

abbrev pub invariant-loop-row : goal.invariant-loop-row
invariant-loop-row l = record {
  all : length l.widths.items ≡ l.columns;
  so_far : (j : ℕ) → j < l.columns → slice_index l.widths.items j ≡ width_of (map written l.numbers) l.row l.columns j;
}
