use Rattle.std.proofs.Common.{◌≡◌, map, take, pos}
use Rattle.jsearch.specs.Intervals.{before}
use Rattle.jsearch.proofs.intervals.counts.Given as goal

abbrev pub invariant-loop-number : goal.invariant-loop-number
invariant-loop-number l = l.counts.items ≡ map (λ n. pos (before l.bounds n)) (take l.number-index l.numbers)
