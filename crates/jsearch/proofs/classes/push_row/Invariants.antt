use Rattle.std.proofs.Common.{◌≡◌, ◌++◌, map, take}
use Rattle.std.specs.Prelude.{◌==◌}
use Rattle.jsearch.specs.Finding.{truth}
use Rattle.jsearch.proofs.classes.push_row.Given as goal

abbrev pub invariant-loop-place : goal.invariant-loop-place
invariant-loop-place l = l.into.items ≡ l.fn.into.items ++ map (λ p. truth (p == l.row)) (take l.place-index l.places)
