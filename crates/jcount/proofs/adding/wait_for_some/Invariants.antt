use Rattle.std.proofs.Common.{[]}
use Rattle.jturn.specs.Pass.{Grew}
use Rattle.jcount.proofs.adding.wait_for_some.Given as goal

abbrev pub invariant-loop : goal.invariant-loop
invariant-loop g l = Grew l.initial.pass [] l.pass
