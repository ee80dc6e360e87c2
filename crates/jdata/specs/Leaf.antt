-- What a view of the atoms of an array shows: their kind, and the atoms in ravel order.
use Rattle.std.specs.Prelude.{List, map}
use Rattle.jdata.specs.Trees.{atom_of}
use Rattle.jdata.specs.declared.noun.Kind.{Kind}
use Rattle.jdata.specs.declared.noun.Kind.TheVariants as sort
use Rattle.jdata.specs.declared.noun.Atom.{Atom}
use Rattle.jdata.specs.declared.noun.Atom.TheVariants as atom
use Rattle.jdata.specs.declared.leaf.Leaf.{Leaf}
use Rattle.jdata.specs.declared.leaf.Leaf.TheVariants as view

abbrev pub kind_in : Leaf → Kind
kind_in (view.Int xs) = sort.Int
kind_in (view.Char xs) = sort.Char
kind_in (view.Cell xs) = sort.Boxed

abbrev pub atoms_in : Leaf → List Atom
atoms_in (view.Int xs) = map atom.Int xs.now
atoms_in (view.Char xs) = map atom.Char xs.now
atoms_in (view.Cell xs) = map atom_of xs.now
