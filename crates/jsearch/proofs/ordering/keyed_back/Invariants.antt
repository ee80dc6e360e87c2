use Rattle.std.proofs.Common.{◌≡◌, map, take}
use Rattle.std.specs.List.{range_with_len}
use Rattle.jsearch.proofs.ordering.keyed_back.Given as goal

abbrev pub invariant-loop-place : goal.invariant-loop-place
invariant-loop-place g l = (map (λ e. e.0.0) l.keyed.items ≡ take l.place l.keys) × (map (λ e. e.1) l.keyed.items ≡ range_with_len 0 l.place)
