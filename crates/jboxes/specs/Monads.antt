-- Box, Open, Level Of and Raze (J Dictionary and NuVoc, "<", ">", "L." and ";").
use Rattle.std.specs.Prelude.{pos, List, [], ◌∷◌, length, map, Result, Ok}
use Rattle.jdata.specs.Limits.{limited}
use Rattle.jdata.specs.Noun.{noun, shape, kind, atoms, level, int_atom}
use Rattle.jdata.specs.declared.fault.Fault.{Fault}
use Rattle.jdata.specs.declared.noun.Noun.{Noun}
use Rattle.jdata.specs.declared.noun.Kind.{Kind}
use Rattle.jdata.specs.declared.noun.Kind.TheVariants as sort
use Rattle.jdata.specs.declared.noun.Atom.{Atom, Atom-F, out-Atom}
use Rattle.jdata.specs.declared.noun.Atom.TheOpen as one
use Rattle.jdata.specs.declared.noun.Atom.TheVariants as atom
use Rattle.jframe.specs.Assembly.{assembled}
use Rattle.jframe.specs.Joining.{items_joined}

-- the array in a box, which is an atom
abbrev pub enclosed : Noun → Result Noun Fault
enclosed y = limited (noun [] sort.Boxed (atom.Box y ∷ []))

-- 0 for an unboxed or empty array, else one more than the greatest level of a content
abbrev pub level_of : Noun → Result Noun Fault
level_of y = Ok (int_atom (pos (level y)))

-- what stands in no box, as in the fill
abbrev pub no_content : Noun
no_content = noun (0 ∷ []) sort.Int []

-- what stands in a box. Pyxes are opened before: one that still stands there has no content
abbrev pub content_in : Atom-F Atom Noun → Noun
content_in (one.Int n) = no_content
content_in (one.Char c) = no_content
content_in (one.Box content) = content
content_in (one.Pyx p) = no_content

abbrev pub content_of : Atom → Noun
content_of a = content_in (out-Atom a)

-- the content of each box; where there is none, that of the fill for the shape and the kind
abbrev pub results : List Atom → List Noun
results [] = no_content ∷ []
results (first ∷ rest) = map content_of (first ∷ rest)

abbrev pub disclosed_by : Kind → Noun → Result Noun Fault
disclosed_by sort.Int y = Ok y
disclosed_by sort.Char y = Ok y
disclosed_by sort.Boxed y = assembled (shape y) (results (atoms y))

-- the contents in one array: the axes of y, and behind them those that the contents have in common
unfoldable pub disclosed : Noun → Result Noun Fault
disclosed y = disclosed_by (kind y) y

abbrev pub contents : Noun → List Noun
contents y = map content_of (atoms y)

-- the atoms in a list
abbrev pub listed : Noun → Result Noun Fault
listed y = limited (noun (length (atoms y) ∷ []) (kind y) (atoms y))

abbrev pub razed_by : Kind → Noun → Result Noun Fault
razed_by sort.Int y = listed y
razed_by sort.Char y = listed y
razed_by sort.Boxed y = items_joined (contents y)

-- the items of all contents, one content after the other; what isn't boxed gives its atoms
unfoldable pub razed : Noun → Result Noun Fault
razed y = razed_by (kind y) y
