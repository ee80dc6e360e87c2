use Rattle.std.proofs.Common.{◌≡◌, map}
use Rattle.std.specs.Prelude.{slice_index, ◌==◌}
use Rattle.std.specs.List.{range_with_len}
use Rattle.jsearch.specs.Finding.{truth}
use Rattle.jsearch.proofs.finding.in_place.Given as goal

abbrev pub invariant-loop-at : goal.invariant-loop-at
invariant-loop-at l = l.numbers.items ≡ map (λ i. truth (slice_index l.places i == i)) (range_with_len 0 l.at)
