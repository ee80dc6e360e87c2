use Rattle.std.proofs.Common.{◌≡◌, ◌≤◌, drop}
use Rattle.jeval.specs.Constants.{numbers}
use Rattle.jeval.proofs.Splitting.{between, read_on}
use Rattle.jeval.proofs.constants.numbers.Given as goal

abbrev pub invariant-loop-i : goal.invariant-loop-i
invariant-loop-i l = record {
  order : l.start ≤ l.i;
  same : numbers l.word ≡ read_on l.numbers.items (between l.word l.start l.i) (drop l.i l.word);
}
