use Rattle.std.proofs.Common.{◌≡◌, ◌∷◌}
use Rattle.std.specs.List.{range_with_len, flat_map}
use Rattle.jformat.specs.Boxes.{bar}
use Rattle.jformat.proofs.Drawing.{content}
use Rattle.jformat.proofs.boxes.content_row.Given as goal

abbrev pub invariant-loop-column : goal.invariant-loop-column
invariant-loop-column l = l.row.items ≡ bar ∷ flat_map (content l.widths l.blocks l.at) (range_with_len 0 l.column)
