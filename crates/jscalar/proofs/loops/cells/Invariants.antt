use Rattle.std.proofs.Common.{◌≡◌, ◌*◌, ◌/◌, get_or, pos}
use Rattle.jscalar.proofs.Filled.{IsFilled}
use Rattle.jscalar.proofs.loops.cells.Given as goal

abbrev pub invariant-loop-x : goal.invariant-loop-x
invariant-loop-x g l = record {
  filled : IsFilled g.V.Dyad.fault (λ j. g.V.Dyad.meant (get_or l.xs (j / l.cell) (pos 0)) (get_or l.fn.ys j (pos 0))) l.from l.any l.ys l.fn.ys;
  count : l.from ≡ l.x-index * l.cell;
}
