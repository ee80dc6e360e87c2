use Rattle.std.proofs.Common.{◌≡◌, map, take}
use Rattle.std.specs.Prelude.{nat_lt, not}
use Rattle.jsearch.specs.Finding.{truth}
use Rattle.jsearch.proofs.finding.not_below.Given as goal

abbrev pub invariant-loop-place : goal.invariant-loop-place
invariant-loop-place l = l.numbers.items ≡ map (λ p. truth (not (nat_lt p l.count))) (take l.place-index l.places)
