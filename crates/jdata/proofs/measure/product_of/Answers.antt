use Rattle.std.proofs.Common.{arith}
use Rattle.jdata.proofs.Extents.{multiplied_more, multiplied_fits}
use Rattle.jdata.specs.Limits.{most_atoms}
use Rattle.jdata.proofs.measure.product_of.Goals as goal

pub loop-axis-preserved : goal.loop-axis-preserved
loop-axis-preserved c = multiplied_more most_atoms c.args.axes.now c.loop-axis.axis-index c.loop-axis.product c.loop-axis-test.true c.loop-axis.invariant

pub overflow_mul-product : goal.overflow_mul-product
overflow_mul-product c =
    let h = multiplied_fits most_atoms c.args.axes.now c.loop-axis.axis-index c.loop-axis.product c.loop-axis-test.true c.loop-axis.invariant in
    omega (arith, h)
