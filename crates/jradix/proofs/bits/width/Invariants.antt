use Rattle.std.proofs.Common.{◌≡◌, ◌≤◌, map, take}
use Rattle.std.specs.Prelude.{max}
use Rattle.jdata.specs.Noun.{greatest}
use Rattle.jselect.specs.Arguments.{count_of}
use Rattle.jradix.specs.Digits.{bits}
use Rattle.jradix.proofs.bits.width.Given as goal

abbrev pub invariant-loop-place : goal.invariant-loop-place
invariant-loop-place l = record { value : l.width ≡ max 1 (greatest (map (λ z. bits (count_of z)) (take l.place l.numbers))); at_most : l.width ≤ 64 }
