use Rattle.std.proofs.Common.{◌≡◌, All, length}
use Rattle.jyard.specs.Yards.{blocks_of, IsHoldOf, IsPassOf}
use Rattle.jyard.proofs.tests.empty.Given as goal

abbrev pub invariant-loop-hold : goal.invariant-loop-hold
invariant-loop-hold l = (l.yard ≡ l.fn.yard) × IsPassOf (blocks_of l.fn.yard) l.pass × All (IsHoldOf (blocks_of l.fn.yard)) l.holds.items

abbrev pub decreases-loop-hold : goal.decreases-loop-hold
decreases-loop-hold l = length l.holds.items
