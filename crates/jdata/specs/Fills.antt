-- The fill of a kind (J Dictionary, "Nouns"; NuVoc, "Fill"): 0, a blank, or a box with an empty list of integers.
use Rattle.std.specs.Prelude.{pos, [], ◌∷◌}
use Rattle.jdata.specs.Noun.{noun}
use Rattle.jdata.specs.declared.noun.Kind.{Kind}
use Rattle.jdata.specs.declared.noun.Kind.TheVariants as sort
use Rattle.jdata.specs.declared.noun.Atom.{Atom}
use Rattle.jdata.specs.declared.noun.Atom.TheVariants as atom

abbrev pub fill_of : Kind → Atom
fill_of sort.Int = atom.Int (pos 0)
fill_of sort.Char = atom.Char 32
fill_of sort.Boxed = atom.Box (noun (0 ∷ []) sort.Int [])
