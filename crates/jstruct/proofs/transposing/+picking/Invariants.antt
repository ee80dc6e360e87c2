use Rattle.std.proofs.Common.{◌≡◌, ◌+◌, ◌*◌, ◌++◌, length}
use Rattle.jstruct.proofs.Stretches.{rest}
use Rattle.jstruct.proofs.Weighing.{rows_picked}
use Rattle.jstruct.proofs.transposing.+picking.Given as goal

abbrev pub decreases-pick : goal.decreases-pick
decreases-pick g l = 2 * length l.axes.now + 1

abbrev pub decreases-pick_along : goal.decreases-pick_along
decreases-pick_along g l = 2 * length l.axes.now

-- the rows so far
abbrev pub invariant-pick_along-loop-i : goal.invariant-pick_along-loop-i
invariant-pick_along-loop-i g l =
    l.into.items ≡ l.initial.into.items ++ rows_picked g.T.Item.blank l.weight (rest l.axes) (rest l.weights) l.start l.items l.i
