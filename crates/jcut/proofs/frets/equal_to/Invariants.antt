use Rattle.std.proofs.Common.{◌≡◌, map, take}
use Rattle.std.specs.Prelude.{◌==◌, slice_index}
use Rattle.jcut.proofs.frets.equal_to.Given as goal

abbrev pub invariant-loop-number : goal.invariant-loop-number
invariant-loop-number l = l.frets.items ≡ map (λ n. slice_index l.numbers l.place == n) (take l.number-index l.numbers)
