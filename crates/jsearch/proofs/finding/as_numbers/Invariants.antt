use Rattle.std.proofs.Common.{◌≡◌, map, take, pos}
use Rattle.jsearch.proofs.finding.as_numbers.Given as goal

abbrev pub invariant-loop-place : goal.invariant-loop-place
invariant-loop-place l = l.numbers.items ≡ map pos (take l.place-index l.places)
