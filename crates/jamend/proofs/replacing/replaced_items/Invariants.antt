use Rattle.std.proofs.Common.{◌≡◌, ◌*◌}
use Rattle.jamend.specs.Replacing.{replaced}
use Rattle.jamend.proofs.replacing.replaced_items.Given as goal

abbrev pub invariant-loop-number : goal.invariant-loop-number
invariant-loop-number g l = l.replaced.items ≡ replaced g.T.Item.blank l.x l.y l.cells.numbers.now l.cells.size (l.number * l.cells.size)
