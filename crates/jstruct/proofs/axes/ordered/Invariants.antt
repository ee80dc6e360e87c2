use Rattle.std.proofs.Common.{◌≡◌, map, take, get_or}
use Rattle.jstruct.specs.Orders.{weight_of}
use Rattle.jstruct.proofs.axes.ordered.Given as goal

abbrev pub invariant-loop-axis : goal.invariant-loop-axis
invariant-loop-axis l =
    (l.lengths.items ≡ map (λ a. get_or l.axes a 0) (take l.axis-index l.order)) × (l.weights.items ≡ map (weight_of l.axes) (take l.axis-index l.order))
