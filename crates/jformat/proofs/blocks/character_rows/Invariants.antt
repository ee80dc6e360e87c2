use Rattle.std.proofs.Common.{◌≡◌}
use Rattle.std.specs.List.{range_with_len, flat_map}
use Rattle.jformat.proofs.Placed.{character_piece}
use Rattle.jformat.proofs.blocks.character_rows.Given as goal

abbrev pub invariant-loop-row : goal.invariant-loop-row
invariant-loop-row l = l.out.items ≡ flat_map (character_piece l.axes l.characters) (range_with_len 0 l.row)
