use Rattle.std.proofs.Common.{◌≡◌, map, take}
use Rattle.std.specs.Prelude.{◌==◌}
use Rattle.std.specs.List.{flat_map}
use Rattle.jsearch.specs.Finding.{truth}
use Rattle.jsearch.proofs.classes.flags.Given as goal

abbrev pub invariant-loop-row : goal.invariant-loop-row
invariant-loop-row l = l.flags.items ≡ flat_map (λ r. map (λ p. truth (p == r)) l.places) (take l.row-index l.rows)
