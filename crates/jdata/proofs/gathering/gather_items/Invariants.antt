use Rattle.std.proofs.Common.{◌≡◌, take, drop}
use Rattle.std.specs.List.{flat_map}
use Rattle.jdata.proofs.gathering.gather_items.Given as goal

abbrev pub invariant-loop-place : goal.invariant-loop-place
invariant-loop-place g l = l.gathered.items ≡ flat_map (λ p. take l.count (drop p l.items)) (take l.place-index l.places)
