use Rattle.jfold.proofs.Backward.{IsFolded}
use Rattle.jfold.proofs.suffixing.from_last.Given as goal

abbrev pub invariant-loop-left : goal.invariant-loop-left
invariant-loop-left g l = IsFolded g.V.Dyad.meant l.left l.value l.numbers l.fn.numbers

abbrev pub decreases-loop-left : goal.decreases-loop-left
decreases-loop-left g l = l.left
