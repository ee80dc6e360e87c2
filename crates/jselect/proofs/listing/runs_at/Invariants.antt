use Rattle.std.proofs.Common.{◌≡◌, ◌*◌, take, drop}
use Rattle.std.specs.List.{flat_map}
use Rattle.jselect.proofs.listing.runs_at.Given as goal

abbrev pub invariant-loop-place : goal.invariant-loop-place
invariant-loop-place g l = l.picked.items ≡ flat_map (λ p. take l.cell (drop (p * l.cell) l.items)) (take l.place-index l.places)
