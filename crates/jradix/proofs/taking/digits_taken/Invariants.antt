use Rattle.std.proofs.Common.{◌≡◌, ◌-◌, length, drop, Ok}
use Rattle.std.specs.Prelude.{reverse}
use Rattle.jradix.specs.Digits.{taken}
use Rattle.jradix.proofs.taking.digits_taken.Given as goal

abbrev pub invariant-loop-done : goal.invariant-loop-done
invariant-loop-done l = taken (drop (length l.bases - l.done) l.bases) l.number ≡ Ok (l.rest, reverse l.digits.items)
