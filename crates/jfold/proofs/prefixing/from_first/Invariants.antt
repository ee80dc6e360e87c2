use Rattle.jfold.proofs.Forward.{IsRunning}
use Rattle.jfold.proofs.prefixing.from_first.Given as goal

abbrev pub invariant-loop-at : goal.invariant-loop-at
invariant-loop-at g l = IsRunning g.V.Dyad.meant l.at l.value l.numbers l.fn.numbers
