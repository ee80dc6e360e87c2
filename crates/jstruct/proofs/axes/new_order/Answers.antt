use Rattle.std.proofs.Common.{arith, ◌∙◌}
use Rattle.jstruct.proofs.Ordering.{kept_more}
use Rattle.jstruct.proofs.axes.new_order.Goals as goal

pub loop-axis-preserved : goal.loop-axis-preserved
loop-axis-preserved c =
    c.in_ok-push_other.ensures ∙ kept_more c.args.last.now c.loop-axis.order.items c.loop-axis.axis c.loop-axis.axis (omega arith) c.loop-axis.invariant
