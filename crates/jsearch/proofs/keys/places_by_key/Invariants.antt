use Rattle.std.proofs.Common.{◌≡◌, ◌≤◌, length, drop}
use Rattle.std.specs.HashMap.{get}
use Rattle.std.specs.List.{position_from}
use Rattle.jsearch.proofs.keys.places_by_key.Given as goal

abbrev pub invariant-loop-left : goal.invariant-loop-left
invariant-loop-left g l = (l.left ≤ length l.among) × ((q : g.row.K.Denot) → get g.K.PartialEq.eq l.places q ≡ position_from (g.K.PartialEq.eq q) l.left (drop l.left l.among))

abbrev pub decreases-loop-left : goal.decreases-loop-left
decreases-loop-left g l = l.left
