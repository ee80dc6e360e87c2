use Rattle.std.proofs.Common.{◌-◌, ◌≤◌, length, get_or, pos}
use Rattle.jscalar.proofs.Filled.{IsFilled}
use Rattle.jscalar.proofs.loops.beside_in_eights.Given as goal

abbrev pub invariant-loop-from : goal.invariant-loop-from
invariant-loop-from g l = record {
  filled : IsFilled g.V.Dyad.fault (λ j. g.V.Dyad.meant l.fn.x (get_or l.fn.ys j (pos 0))) l.from l.any l.ys l.fn.ys;
  within : l.from ≤ length l.fn.ys;
}

abbrev pub decreases-loop-from : goal.decreases-loop-from
decreases-loop-from g l = length l.initial.ys - l.from
