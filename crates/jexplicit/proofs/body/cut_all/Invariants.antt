use Rattle.std.proofs.Common.{◌≡◌, ◌≤◌, ◌+◌, length}
use Rattle.jexplicit.specs.Body.{cut_all, lines_of, words_in}
use Rattle.jexplicit.proofs.Lines.{behind}
use Rattle.jexplicit.proofs.body.cut_all.Given as goal

abbrev pub invariant-loop-line : goal.invariant-loop-line
invariant-loop-line l = record {
  so_far : behind l.lines (cut_all (lines_of l.rest)) ≡ cut_all (lines_of l.text);
  few : length l.lines + length l.rest ≤ length l.text;
  words : words_in l.lines + length l.rest ≤ length l.text;
}

abbrev pub decreases-loop-line : goal.decreases-loop-line
decreases-loop-line l = length l.rest
