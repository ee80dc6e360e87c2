use Rattle.std.proofs.Common.{◌≡◌, drop, map, get_or}
use Rattle.std.specs.Prelude.{max}
use Rattle.jdata.specs.Noun.{shape, greatest}
use Rattle.jframe.specs.Assembly as whole
use Rattle.jframe.proofs.common.greatest_on.Given as goal

abbrev pub invariant-loop-tree : goal.invariant-loop-tree
invariant-loop-tree l =
    max l.greatest (greatest (map (λ v. get_or (whole.raised l.rank (shape v)) l.axis 1) (drop l.tree-index l.results)))
    ≡ greatest (map (λ v. get_or (whole.raised l.rank (shape v)) l.axis 1) l.results)
