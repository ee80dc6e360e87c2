use Rattle.std.proofs.Common.{◌≡◌, ◌+◌, length}
use Rattle.std.specs.Prelude.{decimal}
use Rattle.std.specs.Int.Digits.{digits_of}
use Rattle.jformat.proofs.widths.digit_count.Given as goal

-- those that were counted, and those that are left
abbrev pub invariant-loop-rest : goal.invariant-loop-rest
invariant-loop-rest l = length (decimal l.number) ≡ l.count + length (digits_of 10 l.rest)

abbrev pub decreases-loop-rest : goal.decreases-loop-rest
decreases-loop-rest l = l.rest
