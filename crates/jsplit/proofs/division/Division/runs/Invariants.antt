use Rattle.std.proofs.Common.{◌≡◌, map}
use Rattle.std.specs.List.{range_with_len}
use Rattle.jsplit.specs.Divisions.{run_of}
use Rattle.jsplit.proofs.division.Division.runs.Given as goal

abbrev pub invariant-loop-number : goal.invariant-loop-number
invariant-loop-number l = l.runs.items ≡ map (run_of l.self l.count) (range_with_len 0 l.number)
