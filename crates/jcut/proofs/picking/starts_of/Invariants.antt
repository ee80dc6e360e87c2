use Rattle.std.proofs.Common.{◌≡◌, ◌*◌, map, take}
use Rattle.jcut.proofs.picking.starts_of.Given as goal

abbrev pub invariant-loop-place : goal.invariant-loop-place
invariant-loop-place l = l.starts.items ≡ map (λ p. p * l.cell) (take l.place-index l.places)
