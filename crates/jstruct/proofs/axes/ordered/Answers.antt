use Rattle.std.proofs.Common.{length}
use Rattle.jstruct.proofs.Ordering.{axis_there}
use Rattle.jstruct.proofs.axes.ordered.Goals as goal

pub length_of-requires : goal.length_of-requires
length_of-requires c = axis_there (length c.args.axes.now) c.args.order.now c.loop-axis.axis-index c.requires.order c.loop-axis-test.true

pub weight_of-requires-clause-axis : goal.weight_of-requires-clause-axis
weight_of-requires-clause-axis c = axis_there (length c.args.axes.now) c.args.order.now c.loop-axis.axis-index c.requires.order c.loop-axis-test.true
