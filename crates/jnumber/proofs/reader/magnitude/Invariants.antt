use Rattle.std.proofs.Common.{drop}
use Rattle.jnumber.proofs.Digits.{SameDigits}
use Rattle.jnumber.proofs.reader.magnitude.Given as goal

-- the value so far, followed by what is left, is the value of all, and no byte so far was no digit
abbrev pub invariant-loop-byte : goal.invariant-loop-byte
invariant-loop-byte l = SameDigits l.value (drop l.byte-index l.digits) l.digits
