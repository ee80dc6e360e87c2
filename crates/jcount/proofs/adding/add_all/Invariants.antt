use Rattle.std.proofs.Common.{take}
use Rattle.jturn.specs.Pass.{Grew}
use Rattle.jcount.proofs.adding.add_all.Given as goal

abbrev pub invariant-loop-x : goal.invariant-loop-x
invariant-loop-x g l = Grew l.fn.pass (take l.x-index l.xs) l.pass
