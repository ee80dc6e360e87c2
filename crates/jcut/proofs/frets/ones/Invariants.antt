use Rattle.std.proofs.Common.{◌≡◌, map, take}
use Rattle.jcut.specs.Frets.{is_one}
use Rattle.jcut.proofs.frets.ones.Given as goal

abbrev pub invariant-loop-number : goal.invariant-loop-number
invariant-loop-number l = l.frets.items ≡ map is_one (take l.number-index l.numbers)
