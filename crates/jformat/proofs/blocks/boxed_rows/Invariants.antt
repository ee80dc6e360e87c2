use Rattle.std.proofs.Common.{◌≡◌}
use Rattle.std.specs.List.{range_with_len, flat_map}
use Rattle.jformat.proofs.Placed.{box_piece}
use Rattle.jformat.proofs.blocks.boxed_rows.Given as goal

abbrev pub invariant-loop-row : goal.invariant-loop-row
invariant-loop-row l = l.out.items ≡ flat_map (box_piece l.axes l.blocks) (range_with_len 0 l.row)
