use Rattle.std.proofs.Common.{take}
use Rattle.jturn.specs.Pass.{Grew}
use Rattle.jcount.proofs.shelving.put_all.Given as goal

abbrev pub invariant-loop-line : goal.invariant-loop-line
invariant-loop-line g l = Grew l.fn.pass (take l.line-index l.lines) l.pass
