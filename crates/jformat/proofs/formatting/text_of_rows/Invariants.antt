use Rattle.std.proofs.Common.{◌≡◌, map}
use Rattle.std.specs.List.{range_with_len, flat_map}
use Rattle.jnumber.specs.Spelling.{written}
use Rattle.jformat.specs.Rows.{integer_row}
use Rattle.jformat.proofs.formatting.text_of_rows.Given as goal

abbrev pub invariant-loop-row : goal.invariant-loop-row
invariant-loop-row l = l.text.items ≡ flat_map (integer_row (map written l.numbers) l.rows l.columns) (range_with_len 0 l.row)
