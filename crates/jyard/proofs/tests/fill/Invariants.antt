use Rattle.std.proofs.Common.{◌≡◌, All}
use Rattle.jyard.specs.Yards.{blocks_of, IsHoldOf, IsPassOf}
use Rattle.jyard.proofs.tests.fill.Given as goal

abbrev pub invariant-loop-number : goal.invariant-loop-number
invariant-loop-number g l = (l.yard ≡ l.fn.yard) × IsPassOf (blocks_of l.fn.yard) l.pass × All (IsHoldOf (blocks_of l.fn.yard)) l.holds.items
