use Rattle.std.proofs.Common.{◌≡◌, map}
use Rattle.std.specs.List.{range_with_len}
use Rattle.jradix.specs.Digits.{bit_of}
use Rattle.jradix.proofs.bits.bits_by_place.Given as goal

abbrev pub invariant-loop-place : goal.invariant-loop-place
invariant-loop-place l = l.bits.items ≡ map (bit_of l.numbers l.width) (range_with_len 0 l.place)
