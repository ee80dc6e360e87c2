use Rattle.std.proofs.Common.{◌≡◌}
use Rattle.std.specs.List.{range_with_len, flat_map}
use Rattle.jformat.proofs.Lines.{character_line}
use Rattle.jformat.proofs.showing.display_characters.Given as goal

abbrev pub invariant-loop-row : goal.invariant-loop-row
invariant-loop-row l = l.out.items ≡ flat_map (character_line l.axes l.characters) (range_with_len 0 l.row)
