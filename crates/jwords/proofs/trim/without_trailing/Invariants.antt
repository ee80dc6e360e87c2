use Rattle.std.proofs.Common.{◌≡◌, ◌≤◌, length, drop, true}
use Rattle.std.specs.List.{list_all}
use Rattle.jwords.specs.Alphabet.{is_blank}
use Rattle.jwords.proofs.trim.without_trailing.Given as goal

abbrev pub invariant-loop-end : goal.invariant-loop-end
invariant-loop-end l = record {
  within : l.«end» ≤ length l.text;
  blanks : list_all is_blank (drop l.«end» l.text) ≡ true;
}

abbrev pub decreases-loop-end : goal.decreases-loop-end
decreases-loop-end l = l.«end»
