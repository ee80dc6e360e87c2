use Rattle.std.proofs.Common.{◌≡◌, replicate}
use Rattle.jeval.proofs.targets.copies.Given as goal

abbrev pub invariant-loop-at : goal.invariant-loop-at
invariant-loop-at l = l.values ≡ replicate l._at l.value
