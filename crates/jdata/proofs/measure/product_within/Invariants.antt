use Rattle.jdata.proofs.Extents.{IsMeasured}
use Rattle.jdata.specs.Limits.{most_atoms}
use Rattle.jdata.proofs.measure.product_within.Given as goal

abbrev pub invariant-loop-axis : goal.invariant-loop-axis
invariant-loop-axis l = IsMeasured most_atoms l.axes l.axis-index l.extent l.is_empty
