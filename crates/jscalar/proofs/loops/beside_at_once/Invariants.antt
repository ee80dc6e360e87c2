use Rattle.std.proofs.Common.{get_or, pos}
use Rattle.jscalar.proofs.Filled.{IsFilled}
use Rattle.jscalar.proofs.loops.beside_at_once.Given as goal

abbrev pub invariant-loop-at : goal.invariant-loop-at
invariant-loop-at g l = IsFilled g.V.Dyad.fault (λ j. g.V.Dyad.meant l.fn.x (get_or l.fn.ys j (pos 0))) l.at l.any l.ys l.fn.ys
