use Rattle.std.proofs.Common.{◌≡◌, map, take}
use Rattle.jdata.specs.Match.{plain_atom}
use Rattle.jdata.specs.Trees.{atom_of}
use Rattle.jdata.proofs.tree.+matches.Given as goal

abbrev pub invariant-matches::same_cells-loop-at : goal.invariant-matches::same_cells-loop-at
invariant-matches::same_cells-loop-at l = map plain_atom (map atom_of (take l.at l.left)) ≡ map plain_atom (map atom_of (take l.at l.right))
