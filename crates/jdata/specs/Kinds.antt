-- Kinds (J Dictionary, "Nouns"). An array without atoms counts as one of each kind.
use Rattle.std.specs.Prelude.{Bool, true, false, List, [], ◌∷◌}
use Rattle.jdata.specs.Noun.{kind, atoms}
use Rattle.jdata.specs.declared.noun.Noun.{Noun}
use Rattle.jdata.specs.declared.noun.Kind.{Kind}
use Rattle.jdata.specs.declared.noun.Kind.TheVariants as sort
use Rattle.jdata.specs.declared.noun.Atom.{Atom}

abbrev pub same_kind : Kind → Kind → Bool
same_kind sort.Int sort.Int = true
same_kind sort.Char sort.Char = true
same_kind sort.Boxed sort.Boxed = true
same_kind k other = false

-- where there are no atoms no kind counts
abbrev pub kinds_match : Kind → Kind → List Atom → Bool
kinds_match k m [] = true
kinds_match k m (a ∷ rest) = same_kind k m

-- whether an array counts as one of a kind
abbrev pub is_of_kind : Kind → Noun → Bool
is_of_kind k v = kinds_match (kind v) k (atoms v)
