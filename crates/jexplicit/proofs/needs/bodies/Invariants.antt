use Rattle.std.proofs.Common.{◌≡◌, ◌≤◌, ◌+◌, drop}
use Rattle.jexplicit.specs.Needs.{bodies}
use Rattle.jexplicit.proofs.needs.bodies.Given as goal

abbrev pub invariant-loop-at : goal.invariant-loop-at
invariant-loop-at l = record {
  so_far : l.counted.bodies + bodies l.line (drop l.at l.words) l.counted.depth l.counted.behind ≡ bodies l.line l.words 0 0;
  few : l.counted.bodies ≤ l.at;
  depth : l.counted.depth ≤ l.at;
}
