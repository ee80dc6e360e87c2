use Rattle.std.proofs.Common.{◌≡◌, ◌≤◌, ◌+◌, ◌++◌, drop, length}
use Rattle.jexplicit.specs.Body.{parts_of, words_in}
use Rattle.jexplicit.proofs.body.parts_of.Given as goal

abbrev pub invariant-loop-at : goal.invariant-loop-at
invariant-loop-at l = record {
  so_far : l.parts.items ++ parts_of (l.number + l.at) (drop l.at l.lines) ≡ parts_of l.number l.lines;
  few : length l.parts.items + words_in (drop l.at l.lines) ≤ words_in l.lines;
}
