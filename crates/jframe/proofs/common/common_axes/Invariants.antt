use Rattle.std.proofs.Common.{◌≡◌, map}
use Rattle.std.specs.List.{range_with_len}
use Rattle.jframe.specs.Assembly as whole
use Rattle.jframe.proofs.common.common_axes.Given as goal

abbrev pub invariant-loop-axis : goal.invariant-loop-axis
invariant-loop-axis l = l.axes.items ≡ map (whole.greatest_on l.results) (range_with_len 0 l.axis)
