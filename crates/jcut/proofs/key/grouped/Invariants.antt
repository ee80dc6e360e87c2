use Rattle.std.proofs.Common.{◌≡◌, length, map}
use Rattle.std.specs.List.{range_with_len}
use Rattle.jcut.specs.Grouped.{places_with}
use Rattle.jcut.proofs.key.grouped.Given as goal

abbrev pub invariant-loop-place : goal.invariant-loop-place
invariant-loop-place l = l.lists.items ≡ map (places_with l.numbers l.place) (range_with_len 0 (length l.numbers))
