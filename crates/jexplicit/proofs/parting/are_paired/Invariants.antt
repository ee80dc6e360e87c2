use Rattle.std.proofs.Common.{◌≡◌, ◌≤◌, drop}
use Rattle.jexplicit.specs.Parting.{are_paired}
use Rattle.jexplicit.proofs.parting.are_paired.Given as goal

abbrev pub invariant-loop-word : goal.invariant-loop-word
invariant-loop-word l = record {
  so_far : are_paired l.line (drop l.word-index l.words) l.depth ≡ are_paired l.line l.words 0;
  few : l.depth ≤ l.word-index;
}
