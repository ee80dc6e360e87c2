use Rattle.std.proofs.Common.{◌≡◌, ◌≤◌, drop, length}
use Rattle.std.specs.Prelude.{reverse}
use Rattle.jexplicit.specs.Preparing.{written}
use Rattle.jexplicit.proofs.walking.backward.Given as goal

abbrev pub invariant-loop-left : goal.invariant-loop-left
invariant-loop-left l = record {
  so_far : written (drop l.left l.spots) ≡ record { words = reverse l.words.items; ahead = l.ahead; saved = l.saved.items };
  within : l.left ≤ length l.spots;
}

abbrev pub decreases-loop-left : goal.decreases-loop-left
decreases-loop-left l = l.left
