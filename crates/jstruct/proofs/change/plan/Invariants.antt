use Rattle.std.proofs.Common.{take}
use Rattle.jstruct.specs.Layouts.{ArePlanned}
use Rattle.jstruct.proofs.change.plan.Given as goal

abbrev pub invariant-loop-i : goal.invariant-loop-i
invariant-loop-i l = ArePlanned l.change (take l.i l.numbers) (take l.i l.axes) l.layouts.items
