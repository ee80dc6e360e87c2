use Rattle.std.proofs.Common.{◌≡◌, map, take, length, reverse}
use Rattle.std.specs.List.{position_or_len}
use Rattle.jsearch.specs.Finding.{from_end}
use Rattle.jsearch.proofs.keys.last_places.Given as goal

abbrev pub invariant-loop-key : goal.invariant-loop-key
invariant-loop-key g l = l.found.items ≡ map (λ k. from_end (length l.among) (position_or_len (g.K.PartialEq.eq k) (reverse l.among))) (take l.key-index l.wanted)
