use Rattle.std.proofs.Common.{◌≡◌, ◌≤◌, drop}
use Rattle.jeval.specs.Targets as targets
use Rattle.jeval.proofs.Quoted.{runs_on}
use Rattle.jeval.proofs.Splitting.{between}
use Rattle.jeval.proofs.targets.runs.Given as goal

abbrev pub invariant-loop-i : goal.invariant-loop-i
invariant-loop-i l = record {
  order : l.start ≤ l.i;
  same : targets.runs l.text ≡ runs_on l.names.items (between l.text l.start l.i) (drop l.i l.text);
}
