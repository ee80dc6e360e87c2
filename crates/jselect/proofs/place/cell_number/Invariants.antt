use Rattle.std.proofs.Common.{◌≡◌, ◌≤◌, ◌+◌, ◌*◌, drop}
use Rattle.jdata.specs.Limits.{most_atoms}
use Rattle.jdata.specs.Noun.{extent}
use Rattle.jselect.proofs.Cells.{walk}
use Rattle.jselect.proofs.place.cell_number.Given as goal

abbrev pub invariant-loop-axis : goal.invariant-loop-axis
invariant-loop-axis l = record {
  rest : walk l.cell (drop l.axis l.axes) (drop l.axis l.numbers) ≡ walk 0 l.axes l.numbers;
  bound : (l.cell + 1) * extent (drop l.axis l.axes) ≤ most_atoms;
}
