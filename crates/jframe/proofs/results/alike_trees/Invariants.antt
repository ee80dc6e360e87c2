use Rattle.std.proofs.Common.{◌≡◌}
use Rattle.jdata.specs.Leaf.{kind_in, atoms_in}
use Rattle.jframe.specs.Alike.{alike}
use Rattle.jframe.proofs.results.alike_trees.Given as goal

abbrev pub invariant-loop-at : goal.invariant-loop-at
invariant-loop-at l = l.trees.items ≡ alike l.axes (kind_in l.atoms) (atoms_in l.atoms) l.at
