use Rattle.std.proofs.Common.{◌≡◌, ◌+◌, ◌*◌, ◌≤◌, drop}
use Rattle.jdata.specs.Limits.{most_atoms}
use Rattle.jframe.specs.Joining.{count_joined}
use Rattle.jframe.proofs.items.count_items.Given as goal

abbrev pub invariant-loop-tree : goal.invariant-loop-tree
invariant-loop-tree l = (l.count + count_joined l.rank (drop l.tree-index l.arrays) ≡ count_joined l.rank l.arrays) × (l.count ≤ l.tree-index * most_atoms)
