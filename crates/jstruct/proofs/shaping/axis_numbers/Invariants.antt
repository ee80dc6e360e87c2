use Rattle.std.proofs.Common.{◌≡◌, map, take}
use Rattle.std.specs.Prelude.{pos}
use Rattle.jstruct.proofs.shaping.axis_numbers.Given as goal

abbrev pub invariant-loop-axis : goal.invariant-loop-axis
invariant-loop-axis l = l.numbers.items ≡ map pos (take l.axis-index l.axes)
