use Rattle.std.proofs.Common.{refl}
use Rattle.jdata.proofs.Extents.{measured_zero, measured_axis, beyond}
use Rattle.jdata.proofs.measure.product_within.Goals as goal
use Rattle.jdata.specs.Limits.{most_atoms}
use Rattle.jdata.proofs.measure.product_within.Goals.{then-axis-eq0, else-axis-eq0+else-axis-extent}

pub returns-then-axis-extent : goal.returns-then-axis-extent
returns-then-axis-extent c = beyond most_atoms _ _ _ _ _ c.loop-axis-test.true refl c.if-axis-eq0.false c.if-axis-extent.true c.loop-axis.invariant

pub loop-axis-preserved : goal.loop-axis-preserved
loop-axis-preserved c =
    elim c.if-axis-eq0.branch [
      | then-axis-eq0 w ↦ rw (w.extent-is, w.is_empty-is) (measured_zero most_atoms _ _ _ _ c.loop-axis-test.true w.if-axis-eq0.true c.loop-axis.invariant)
      | else-axis-eq0+else-axis-extent w ↦
          rw (w.extent-is, w.is_empty-is) (measured_axis most_atoms _ _ _ _ _ c.loop-axis-test.true refl w.if-axis-eq0.false w.if-axis-extent.false c.loop-axis.invariant)
    ]
