use Rattle.std.proofs.Common.{◌≡◌}
use Rattle.jyard.specs.Yards.{blocks_of, IsPassOf}
use Rattle.jyard.proofs.tests.takes.Given as goal

abbrev pub invariant-loop-round : goal.invariant-loop-round
invariant-loop-round l = (l.yard ≡ l.fn.yard) × IsPassOf (blocks_of l.fn.yard) l.pass
