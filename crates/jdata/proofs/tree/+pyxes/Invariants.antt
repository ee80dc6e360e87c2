use Rattle.std.proofs.Common.{◌≡◌, map, drop}
use Rattle.jdata.specs.Pyxes.{atom_pyx, first_some}
use Rattle.jdata.specs.Trees.{atom_of}
use Rattle.jdata.proofs.tree.+pyxes.Given as goal

abbrev pub invariant-pyxes::first_of-loop-cell : goal.invariant-pyxes::first_of-loop-cell
invariant-pyxes::first_of-loop-cell l = first_some (map atom_pyx (map atom_of (drop l.cell-index l.cells))) ≡ first_some (map atom_pyx (map atom_of l.cells))
