use Rattle.std.proofs.Common.{◌≡◌, drop}
use Rattle.std.specs.List.{filter}
use Rattle.jframe.specs.Assembly as whole
use Rattle.jframe.proofs.kinds.leading_kind.Given as goal

-- none before has atoms
abbrev pub invariant-loop-tree : goal.invariant-loop-tree
invariant-loop-tree l = filter whole.has_atoms (drop l.tree-index l.results) ≡ filter whole.has_atoms l.results
