use Rattle.std.proofs.Common.{◌≡◌, map}
use Rattle.std.specs.List.{flat_map}
use Rattle.jframe.specs.Padding.{joined}
use Rattle.jframe.proofs.joining.join.Given as goal

abbrev pub invariant-loop-tree : goal.invariant-loop-tree
invariant-loop-tree g l = map g.T.Item.atom l.items.items ≡ flat_map (λ v. joined g.T.Item.kind l.whole v) l.yielded
