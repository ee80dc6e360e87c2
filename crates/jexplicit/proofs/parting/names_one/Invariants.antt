use Rattle.std.proofs.Common.{◌≡◌, ◌≤◌, drop}
use Rattle.jexplicit.specs.Parting.{names_one}
use Rattle.jexplicit.proofs.parting.names_one.Given as goal

abbrev pub invariant-loop-word : goal.invariant-loop-word
invariant-loop-word l = record {
  so_far : names_one l.letters l.line (drop l.word-index l.words) l.depth ≡ names_one l.letters l.line l.words 0;
  few : l.depth ≤ l.word-index;
}
