use Rattle.std.proofs.Common.{◌≡◌, None, map, take}
use Rattle.jdata.specs.Pyxes.{atom_pyx, first_some}
use Rattle.jdata.specs.Trees.{atom_of}
use Rattle.jdata.proofs.tree.pyxes.place_of_pyx.Given as goal

abbrev pub invariant-loop-at : goal.invariant-loop-at
invariant-loop-at l = first_some (map atom_pyx (map atom_of (take l.at l.cells))) ≡ None
