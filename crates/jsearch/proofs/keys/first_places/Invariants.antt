use Rattle.std.proofs.Common.{◌≡◌, map, take}
use Rattle.std.specs.List.{position_or_len}
use Rattle.jsearch.proofs.keys.first_places.Given as goal

abbrev pub invariant-loop-key : goal.invariant-loop-key
invariant-loop-key g l = l.found.items ≡ map (λ k. position_or_len (g.K.PartialEq.eq k) l.among) (take l.key-index l.wanted)
