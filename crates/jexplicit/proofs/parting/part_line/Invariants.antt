use Rattle.std.proofs.Common.{◌≡◌, ◌≤◌, ◌+◌, ◌++◌, cond, drop, length}
use Rattle.jexplicit.specs.Parting.{parted, stretches}
use Rattle.jexplicit.proofs.parting.part_line.Given as goal

abbrev pub invariant-loop-at : goal.invariant-loop-at
invariant-loop-at l = record {
  so_far : l.parts.items ++ parted l.number l.line (drop l.at l.words) l.at l.begun ≡ l.initial.parts.items ++ stretches l.number l.line l.words;
  depth : l.begun.depth ≤ l.at;
  few : length l.parts.items + cond l.begun.full 1 0 ≤ length l.initial.parts.items + l.at;
}
