use Rattle.std.proofs.Common.{◌≡◌, map}
use Rattle.std.specs.List.{range_with_len}
use Rattle.jamend.specs.Replacing.{last_place}
use Rattle.jamend.proofs.replacing.last_places.Given as goal

abbrev pub invariant-loop-place : goal.invariant-loop-place
invariant-loop-place l = l.last.items ≡ map (last_place l.numbers l.place) (range_with_len 0 l.count)
