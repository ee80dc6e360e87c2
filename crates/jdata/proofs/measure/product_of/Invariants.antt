use Rattle.std.proofs.Common.{drop}
use Rattle.jdata.proofs.Extents.{IsMultiplied}
use Rattle.jdata.specs.Limits.{most_atoms}
use Rattle.jdata.proofs.measure.product_of.Given as goal

-- the product of the axes so far
abbrev pub invariant-loop-axis : goal.invariant-loop-axis
invariant-loop-axis l = IsMultiplied most_atoms l.product (drop l.axis-index l.axes) l.axes
