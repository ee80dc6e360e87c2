use Rattle.std.proofs.Common.{◌≡◌, ◌+◌, ◌-◌, ◌*◌, ◌++◌, length}
use Rattle.jstruct.specs.Layouts.{stretch_laid}
use Rattle.jstruct.proofs.laying.+laying.Given as goal

abbrev pub decreases-lay : goal.decreases-lay
decreases-lay g l = 2 * length l.layouts.now + 1

abbrev pub decreases-lay_stretch : goal.decreases-lay_stretch
decreases-lay_stretch g l = 2 * length l.layouts.now

-- the rows so far
abbrev pub invariant-lay_stretch-loop-i : goal.invariant-lay_stretch-loop-i
invariant-lay_stretch-loop-i g l =
    l.into.items ≡ l.initial.into.items ++ stretch_laid g.T.Item.blank (record { start = l.fn.stretch.start; count = l.i - l.fn.stretch.start }) l.layouts l.axes l.items
