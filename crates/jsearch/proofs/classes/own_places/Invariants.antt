use Rattle.std.proofs.Common.{◌≡◌}
use Rattle.std.specs.Prelude.{slice_index, ◌==◌, filter}
use Rattle.std.specs.List.{range_with_len}
use Rattle.jsearch.proofs.classes.own_places.Given as goal

abbrev pub invariant-loop-at : goal.invariant-loop-at
invariant-loop-at l = l.own.items ≡ filter (λ i. slice_index l.places i == i) (range_with_len 0 l.at)
