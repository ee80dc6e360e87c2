use Rattle.std.proofs.Common.{◌≡◌}
use Rattle.jstruct.proofs.Repeating.{cycle}
use Rattle.jstruct.proofs.shaping.items_again.Given as goal

abbrev pub invariant-loop : goal.invariant-loop
invariant-loop g l = l.made.items ≡ cycle l.counter l.items
