-- How the code keeps a noun: its leaves, and beside them the level and whether a pyx stands in it.
use Rattle.std.specs.Prelude.{ℕ, ◌≡◌, List, map}
use Rattle.jdata.specs.Limits.{IsArray}
use Rattle.jdata.specs.Noun.{noun, level}
use Rattle.jdata.specs.declared.noun.Noun.{Noun}
use Rattle.jdata.specs.declared.noun.Kind.{Kind}
use Rattle.jdata.specs.declared.noun.Kind.TheVariants as sort
use Rattle.jdata.specs.declared.noun.Atom.{Atom}
use Rattle.jdata.specs.declared.noun.Atom.TheVariants as atom
use Rattle.jdata.specs.declared.tree.Tree.TheInside.{Inside}
use Rattle.jdata.specs.declared.tree.Cell.{Cell}
use Rattle.jdata.specs.declared.tree.Cell.TheVariants as cell
use Rattle.jdata.specs.declared.tree.Leaves.{Leaves}
use Rattle.jdata.specs.declared.tree.Leaves.TheVariants as leaf

abbrev pub atom_of : Cell → Atom
atom_of (cell.Boxed v) = atom.Box v
atom_of (cell.Pyx p) = atom.Pyx p

abbrev pub kind_of : Leaves → Kind
kind_of (leaf.Int xs) = sort.Int
kind_of (leaf.Char xs) = sort.Char
kind_of (leaf.Cell xs) = sort.Boxed

abbrev pub atoms_of : Leaves → List Atom
atoms_of (leaf.Int xs) = map atom.Int xs
atoms_of (leaf.Char xs) = map atom.Char xs
atoms_of (leaf.Cell xs) = map atom_of xs

-- the noun of this shape and these leaves
abbrev pub noun_of : List ℕ → Leaves → Noun
noun_of axes leaves = noun axes (kind_of leaves) (atoms_of leaves)

abbrev pub value_of : Inside → Noun
value_of a = noun_of a.axes a.leaves

-- it is an array, and what is kept beside the leaves is true of them
pub record IsKept (a : Inside) : Type 0 where
  pub array : IsArray (value_of a)
  pub depth_is : a.depth ≡ level (value_of a)
