use Rattle.std.proofs.Common.{◌≡◌, map, take}
use Rattle.jsearch.specs.Turned.{magnitude}
use Rattle.jsearch.proofs.counting.magnitudes.Given as goal

abbrev pub invariant-loop-number : goal.invariant-loop-number
invariant-loop-number l = l.axes.items ≡ map magnitude (take l.number-index l.numbers)
