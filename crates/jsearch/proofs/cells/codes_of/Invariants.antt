use Rattle.std.proofs.Common.{◌≡◌, map}
use Rattle.std.specs.List.{range_with_len}
use Rattle.jsearch.specs.Codes.{code}
use Rattle.jsearch.specs.Listed.{cell_in}
use Rattle.jsearch.proofs.cells.codes_of.Given as goal

abbrev pub invariant-loop-place : goal.invariant-loop-place
invariant-loop-place l = map (λ c. c.items) l.codes.items ≡ map (λ j. code (cell_in l.cells j)) (range_with_len 0 l.place)
