use Rattle.std.proofs.Common.{◌≡◌, map, take}
use Rattle.jstruct.specs.Axes.{axis_named}
use Rattle.jstruct.proofs.axes.axes_named.Given as goal

abbrev pub invariant-loop-number : goal.invariant-loop-number
invariant-loop-number l = l.named.items ≡ map (axis_named l.rank) (take l.number-index l.numbers)
