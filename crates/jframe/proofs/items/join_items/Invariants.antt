use Rattle.std.proofs.Common.{◌≡◌, map}
use Rattle.std.specs.List.{flat_map}
use Rattle.jframe.specs.Blocks.{block}
use Rattle.jframe.proofs.items.join_items.Given as goal

abbrev pub invariant-loop-tree : goal.invariant-loop-tree
invariant-loop-tree g l = map g.T.Item.atom l.items.items ≡ flat_map (block g.T.Item.kind l.item) l.yielded
