use Rattle.std.proofs.Common.{◌≡◌, ◌++◌, map}
use Rattle.std.specs.List.{range_with_len}
use Rattle.jformat.specs.Boxes.{content_row}
use Rattle.jformat.proofs.boxes.push_boxes.Given as goal

abbrev pub invariant-loop-at : goal.invariant-loop-at
invariant-loop-at l = l.out.items ≡ l.initial.out.items ++ map (content_row l.widths l.blocks) (range_with_len 0 l.at)
