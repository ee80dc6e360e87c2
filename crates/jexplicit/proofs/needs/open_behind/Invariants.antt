use Rattle.std.proofs.Common.{◌≡◌, ◌≤◌, drop}
use Rattle.jexplicit.specs.Needs.{open_behind}
use Rattle.jexplicit.proofs.needs.open_behind.Given as goal

abbrev pub invariant-loop-word : goal.invariant-loop-word
invariant-loop-word l = record {
  so_far : open_behind l.line (drop l.word-index l.words) l.depth ≡ open_behind l.line l.words 0;
  few : l.depth ≤ l.word-index;
}
