-- A box's content is smaller than the array that the box stands in.
use Rattle.std.specs.Prelude.{ℕ, ◌≤◌, List, [], ◌∷◌, map}
use Rattle.std.proofs.Common.{arith}
use denote.Param.Weighed.{most}
use Rattle.jdata.specs.Noun.{noun}
use Rattle.jdata.specs.Trees.{atom_of, value_of, noun_of}
use Rattle.jdata.specs.declared.noun.Noun.{size-Noun}
use Rattle.jdata.specs.declared.noun.Kind.TheVariants as sort
use Rattle.jdata.specs.declared.noun.Atom.{size-Atom}
use Rattle.jdata.specs.declared.noun.Atom.TheViews.{sized-Box, size_is-Noun}
use Rattle.jdata.specs.declared.tree.Cell.{Cell}
use Rattle.jdata.specs.declared.tree.Cell.TheVariants as cell
use Rattle.jdata.specs.declared.tree.Leaves.{Leaves}
use Rattle.jdata.specs.declared.tree.Leaves.TheVariants as leaf
use Rattle.jdata.specs.declared.tree.Tree.TheDeep.{deep-Cell, deep-Leaves, deep-Tree}
use Rattle.jdata.specs.declared.tree.Tree.TheInside.{Inside}

pub cell_falls : (c : Cell) → deep-Cell c ≤ size-Atom (atom_of c)
cell_falls (cell.Boxed v) = omega (arith, sized-Box v)
cell_falls (cell.Pyx p) = omega arith

pub cells_fall : (cs : List Cell) → most deep-Cell cs ≤ most size-Atom (map atom_of cs)
cells_fall [] = omega arith
cells_fall (c ∷ cs) = omega (arith, cell_falls c, cells_fall cs)

pub leaves_fall : (axes : List ℕ) (l : Leaves) → deep-Leaves l ≤ size-Noun (noun_of axes l)
leaves_fall axes (leaf.Int xs) = omega arith
leaves_fall axes (leaf.Char xs) = omega arith
leaves_fall axes (leaf.Cell cs) = omega (arith, cells_fall cs, size_is-Noun (noun axes sort.Boxed (map atom_of cs)))

pub falls : (a : Inside) → deep-Tree a ≤ size-Noun (value_of a)
falls a = omega (arith, leaves_fall a.axes a.leaves)
