use Rattle.std.proofs.Common.{◌≡◌, drop}
use Rattle.std.specs.Prelude.{max}
use Rattle.jframe.specs.Assembly as whole
use Rattle.jframe.proofs.common.greatest_rank.Given as goal

abbrev pub invariant-loop-tree : goal.invariant-loop-tree
invariant-loop-tree l = max l.rank (whole.greatest_rank (drop l.tree-index l.results)) ≡ whole.greatest_rank l.results
