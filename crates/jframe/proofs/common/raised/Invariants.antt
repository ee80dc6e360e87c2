use Rattle.std.proofs.Common.{◌≡◌, replicate}
use Rattle.jframe.proofs.common.raised.Given as goal

abbrev pub invariant-loop : goal.invariant-loop
invariant-loop l = l.raised.items ≡ replicate l.counter 1
