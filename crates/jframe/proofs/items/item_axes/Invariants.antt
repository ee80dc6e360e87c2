use Rattle.std.proofs.Common.{◌≡◌, ◌-◌, map}
use Rattle.std.specs.List.{range_with_len}
use Rattle.jdata.specs.Noun.{greatest}
use Rattle.jframe.specs.Joining.{axis_given}
use Rattle.jframe.proofs.items.item_axes.Given as goal

abbrev pub invariant-loop-axis : goal.invariant-loop-axis
invariant-loop-axis l = l.axes.items ≡ map (λ axis. greatest (map (axis_given l.rank axis) l.arrays)) (range_with_len 1 (l.axis - 1))
