use Rattle.std.proofs.Common.{◌≡◌, drop, map}
use Rattle.std.specs.Prelude.{max}
use Rattle.jdata.specs.Noun.{greatest}
use Rattle.jframe.specs.Joining.{axis_given}
use Rattle.jframe.proofs.items.greatest_given.Given as goal

abbrev pub invariant-loop-tree : goal.invariant-loop-tree
invariant-loop-tree l =
    max l.greatest (greatest (map (axis_given l.rank l.axis) (drop l.tree-index l.arrays))) ≡ greatest (map (axis_given l.rank l.axis) l.arrays)
