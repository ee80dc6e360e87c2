-- Match (NuVoc "-:"): two arrays match where their shapes and their atoms are equal. Where there are no atoms no kind counts.
use Rattle.std.specs.Prelude.{◌≡◌, List, [], ◌∷◌}
use Rattle.jdata.specs.Noun.{noun}
use Rattle.jdata.specs.declared.noun.Noun.{Noun, fold-Noun}
use Rattle.jdata.specs.declared.noun.Kind.{Kind}
use Rattle.jdata.specs.declared.noun.Kind.TheVariants as sort
use Rattle.jdata.specs.declared.noun.Atom.{Atom, fold-Atom, roll-Atom}

-- of an array without atoms the kind is forgotten
abbrev pub plain_kind : Kind → List Atom → Kind
plain_kind k [] = sort.Int
plain_kind k (a ∷ rest) = k

-- the noun without the kinds that don't count, at every level
abbrev pub plain : Noun → Noun
plain = fold-Noun Atom Noun roll-Atom (λ v. noun v.shape (plain_kind v.kind v.atoms) v.atoms)

abbrev pub plain_atom : Atom → Atom
plain_atom = fold-Atom Atom Noun roll-Atom (λ v. noun v.shape (plain_kind v.kind v.atoms) v.atoms)

abbrev pub IsMatch : Noun → Noun → Type 0
IsMatch v w = plain v ≡ plain w
