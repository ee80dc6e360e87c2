-- Nouns (J Dictionary, "Nouns"): an array is a shape, a kind and its atoms in ravel order.
use Rattle.std.specs.Prelude.{ℕ, ◌+◌, ◌*◌, max, ℤ, List, [], ◌∷◌}
use Rattle.jdata.specs.declared.noun.Noun.{Noun, out-Noun, roll-Noun, fold-Noun}
use Rattle.jdata.specs.declared.noun.Kind.{Kind}
use Rattle.jdata.specs.declared.noun.Kind.TheVariants as sort
use Rattle.jdata.specs.declared.noun.Atom.{Atom, Atom-F, fold-Atom}
use Rattle.jdata.specs.declared.noun.Atom.TheVariants as atom
use Rattle.jdata.specs.declared.noun.Atom.TheOpen as one

abbrev pub shape : Noun → List ℕ
shape v = (out-Noun v).shape

abbrev pub kind : Noun → Kind
kind v = (out-Noun v).kind

abbrev pub atoms : Noun → List Atom
atoms v = (out-Noun v).atoms

-- the noun of this shape, kind and atoms
abbrev pub noun : List ℕ → Kind → List Atom → Noun
noun s k a = roll-Noun (record { shape = s; kind = k; atoms = a })

-- an integer that stands alone
abbrev pub int_atom : ℤ → Noun
int_atom n = noun [] sort.Int (atom.Int n ∷ [])

-- how many atoms an array of this shape has
abbrev pub product : List ℕ → ℕ
product [] = 1
product (n ∷ ns) = n * product ns

-- the product of the axes that aren't 0
abbrev pub extent : List ℕ → ℕ
extent [] = 1
extent (n ∷ ns) = max n 1 * extent ns

abbrev pub greatest : List ℕ → ℕ
greatest [] = 0
greatest (n ∷ ns) = max n (greatest ns)

-- a box stands one level above its content, and a pyx one above nothing
abbrev pub level_step : Atom-F ℕ ℕ → ℕ
level_step (one.Int n) = 0
level_step (one.Char c) = 0
level_step (one.Box n) = n + 1
level_step (one.Pyx p) = 1

-- the box levels ("Level Of"): 0 for an unboxed or empty array, else one more than the greatest level of a content
abbrev pub level : Noun → ℕ
level = fold-Noun ℕ ℕ level_step (λ v. greatest v.atoms)

abbrev pub atom_level : Atom → ℕ
atom_level = fold-Atom ℕ ℕ level_step (λ v. greatest v.atoms)
