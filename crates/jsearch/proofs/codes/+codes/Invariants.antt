use Rattle.std.proofs.Common.{◌≡◌, ◌+◌, ◌*◌, ◌++◌, map, take}
use Rattle.jdata.specs.Leaf.{atoms_in}
use Rattle.jdata.specs.Noun.{atom_level, greatest}
use Rattle.jdata.specs.Trees.{atom_of}
use Rattle.jdata.proofs.Levels.{greatest_of}
use Rattle.jsearch.specs.Codes.{atom_code, joined}
use Rattle.jsearch.proofs.codes.+codes.Given as goal

-- the levels of boxes that are left
abbrev pub decreases-push_code : goal.decreases-push_code
decreases-push_code l = 3 * greatest (map atom_level (atoms_in l.atoms)) + 2

abbrev pub decreases-push_cells : goal.decreases-push_cells
decreases-push_cells l = 3 * greatest_of l.cells.now + 1

abbrev pub decreases-push_cell : goal.decreases-push_cell
decreases-push_cell l = 3 * atom_level (atom_of l.cell.now)

abbrev pub invariant-push_cells-loop-cell : goal.invariant-push_cells-loop-cell
invariant-push_cells-loop-cell l = l.into.items ≡ l.fn.into.items ++ joined (map atom_code (map atom_of (take l.cell-index l.cells)))
