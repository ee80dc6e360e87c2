use Rattle.std.proofs.Common.{◌≡◌, map, pos, false}
use Rattle.jselect.specs.Copies.{count_at}
use Rattle.jselect.specs.Picking.{repeated, served}
use Rattle.jsearch.proofs.repeating.repeated_places.Given as goal

abbrev pub invariant-loop-place : goal.invariant-loop-place
invariant-loop-place l = l.places.items ≡ map pos (repeated (count_at false l.counts) (served false) l.place)
