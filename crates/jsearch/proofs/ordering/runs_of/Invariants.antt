use Rattle.std.proofs.Common.{◌≡◌, ◌*◌, map, take, drop}
use Rattle.std.specs.List.{range_with_len}
use Rattle.jsearch.proofs.ordering.runs_of.Given as goal

abbrev pub invariant-loop-place : goal.invariant-loop-place
invariant-loop-place g l = map (λ s. s.now) l.runs.items ≡ map (λ p. take l.size (drop (p * l.size) l.atoms)) (range_with_len 0 l.place)
