use Rattle.std.proofs.Common.{◌≡◌, ◌≤◌, ◌<◌, ◌+◌, ◌*◌, ◌^◌, ◌++◌, [], drop}
use Rattle.std.specs.Prelude.{All}
use Rattle.jexplicit.specs.Preparing.{spots, start}
use Rattle.jexplicit.proofs.walking.spots.Given as goal

abbrev pub invariant-loop-index : goal.invariant-loop-index
invariant-loop-index l = record {
  so_far : l.all.items ++ spots (drop l.index l.kinds) l.at l.saved.items ≡ spots l.kinds (start l.first) [];
  number : l.at.number ≡ l.first + l.index;
  place : l.at.place ≤ 1 + 2 * l.index;
  depth : l.at.depth ≤ l.index;
  places : All (λ spot. spot.at.place + 1 + 1 < 2 ^ 64) l.all.items;
}
