use Rattle.std.proofs.Common.{◌≡◌, ◌+◌, ◌*◌, ◌<◌, map}
use Rattle.jdyad.proofs.Comparing.{pair_at}
use Rattle.jdyad.proofs.Filling.{Gives}
use Rattle.jdyad.proofs.comparison.compare_each.Given as goal

abbrev pub invariant-loop-item : goal.invariant-loop-item
invariant-loop-item g l = record {
  done : Gives (pair_at l.verb (map g.L.Kept.atom l.shorter) l.cell (map g.L.Kept.atom l.longer)) l.item-index l.truths.items;
  count : l.place.item * l.cell + l.place.used ≡ l.item-index;
  within : l.place.used < l.cell;
}
