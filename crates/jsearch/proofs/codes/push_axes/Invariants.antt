use Rattle.std.proofs.Common.{◌≡◌, ◌++◌, ◌∷◌, length, pos, map, take}
use Rattle.jsearch.proofs.codes.push_axes.Given as goal

abbrev pub invariant-loop-axis : goal.invariant-loop-axis
invariant-loop-axis l = l.into.items ≡ l.fn.into.items ++ pos (length l.axes) ∷ map pos (take l.axis-index l.axes)
