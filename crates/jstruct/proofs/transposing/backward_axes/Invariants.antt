use Rattle.std.proofs.Common.{◌≡◌, ◌-◌, drop, length, reverse}
use Rattle.jdata.specs.Noun.{product}
use Rattle.jstruct.specs.Weights.{weights_of}
use Rattle.jstruct.proofs.transposing.backward_axes.Given as goal

abbrev pub invariant-loop-k : goal.invariant-loop-k
invariant-loop-k l = record {
  axes : l.backward.items ≡ reverse (drop (length l.axes - l.k) l.axes);
  weights : l.weights.items ≡ reverse (weights_of (drop (length l.axes - l.k) l.axes));
  weight : l.weight ≡ product (drop (length l.axes - l.k) l.axes);
}
