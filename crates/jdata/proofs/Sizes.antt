-- Boxes are nested in finite depth: the cells of some leaves are no deeper than the leaves.
use Rattle.std.specs.Prelude.{◌+◌, ◌*◌, ◌≤◌, ◌≡◌, List, [], ◌∷◌}
use Rattle.std.proofs.Common.{arith}
use denote.Param.Weighed.{most}
use Rattle.jdata.specs.declared.tree.Cell.{Cell}
use Rattle.jdata.specs.declared.tree.Leaves.{Leaves}
use Rattle.jdata.specs.declared.tree.Leaves.TheVariants as leaf
use Rattle.jdata.specs.declared.tree.Tree.TheDeep.{deep-Cell, deep-Leaves, size-Cell}

sizes : (cs : List Cell) → most size-Cell cs ≤ 3 * most deep-Cell cs + 1
sizes [] = omega arith
sizes (c ∷ cs) = omega (arith, sizes cs)

pub cells_within : (cs now : List Cell) (l : Leaves) → l ≡ leaf.Cell cs → now ≡ cs → most size-Cell now ≤ 3 * deep-Leaves l + 1
cells_within cs now l e f = rw (e, f) (omega (arith, sizes cs))
