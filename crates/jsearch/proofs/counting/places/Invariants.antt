use Rattle.std.proofs.Common.{◌≡◌, map, pos}
use Rattle.std.specs.List.{range_with_len}
use Rattle.jdata.specs.Indexes.{index_at}
use Rattle.jsearch.specs.Turned.{place_turned}
use Rattle.jsearch.proofs.counting.places.Given as goal

abbrev pub invariant-loop-place : goal.invariant-loop-place
invariant-loop-place l = l.places.items ≡ map (λ p. pos (place_turned l.numbers (index_at l.axes p))) (range_with_len 0 l.place)
