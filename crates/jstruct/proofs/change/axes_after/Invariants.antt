use Rattle.std.proofs.Common.{◌≡◌, take}
use Rattle.jstruct.specs.Laying.{axes_after}
use Rattle.jstruct.proofs.change.axes_after.Given as goal

abbrev pub invariant-loop-i : goal.invariant-loop-i
invariant-loop-i l = l.changed.items ≡ axes_after l.change (take l.i l.numbers) (take l.i l.axes)
