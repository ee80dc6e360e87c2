use Rattle.std.proofs.Common.{◌≡◌, map, take, pos}
use Rattle.jsearch.proofs.ordering.places_beside.Given as goal

abbrev pub invariant-loop-pair : goal.invariant-loop-pair
invariant-loop-pair g l = l.places.items ≡ map (λ e. pos e.1) (take l.pair-index l.keyed)
