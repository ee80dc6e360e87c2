use Rattle.std.proofs.Common.{◌≡◌, ◌++◌, replicate}
use Rattle.jsearch.proofs.repeating.push_times.Given as goal

abbrev pub invariant-loop : goal.invariant-loop
invariant-loop l = l.into.items ≡ l.fn.into.items ++ replicate l.counter l.number
