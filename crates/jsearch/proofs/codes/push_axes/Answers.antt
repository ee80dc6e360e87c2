use Rattle.std.proofs.Common.{arith}
use Rattle.jdata.specs.Limits.{most_atoms}
use Rattle.jsearch.proofs.Pushing.{axis_within}
use Rattle.jsearch.proofs.codes.push_axes.Goals as goal

pub integer-requires-in-loop-axis : goal.integer-requires-in-loop-axis
integer-requires-in-loop-axis c =
    let within = axis_within c.args.axes.now c.loop-axis.axis-index most_atoms c.requires.axes c.loop-axis-test.true in
    omega (arith, within)
