use Rattle.std.proofs.Common.{◌≡◌, ◌≤◌, length, take, reverse}
use Rattle.jfold.specs.Folded as folded
use Rattle.jfold.proofs.folding.between.Given as goal

abbrev pub invariant-loop-left : goal.invariant-loop-left
invariant-loop-left g l = record {
  rest : folded.between g.V.Dyad.meant (reverse (take l.left l.numbers)) l.value ≡ folded.between g.V.Dyad.meant (reverse l.numbers) l.last;
  within : l.left ≤ length l.numbers;
}

abbrev pub decreases-loop-left : goal.decreases-loop-left
decreases-loop-left g l = l.left
