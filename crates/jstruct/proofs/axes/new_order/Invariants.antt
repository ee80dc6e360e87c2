use Rattle.std.proofs.Common.{◌≡◌}
use Rattle.std.specs.Prelude.{not}
use Rattle.std.specs.List.{filter, range_with_len}
use Rattle.jstruct.specs.Axes.{is_among}
use Rattle.jstruct.proofs.axes.new_order.Given as goal

abbrev pub invariant-loop-axis : goal.invariant-loop-axis
invariant-loop-axis l = l.order.items ≡ filter (λ a. not (is_among l.last a)) (range_with_len 0 l.axis)
