use Rattle.std.proofs.Common.{◌≡◌}
use Rattle.std.specs.List.{range_with_len, flat_map}
use Rattle.jformat.proofs.Placed.{integer_piece}
use Rattle.jformat.proofs.blocks.integer_rows.Given as goal

abbrev pub invariant-loop-row : goal.invariant-loop-row
invariant-loop-row l = l.out.items ≡ flat_map (integer_piece l.axes l.numbers) (range_with_len 0 l.row)
