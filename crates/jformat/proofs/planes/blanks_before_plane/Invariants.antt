use Rattle.jformat.proofs.Changes.{IsCounted}
use Rattle.jformat.proofs.planes.blanks_before_plane.Given as goal

abbrev pub invariant-loop-at : goal.invariant-loop-at
invariant-loop-at l = IsCounted l.axes l.plane l.inner l.blanks l.at
