-- The first pyx in an array, in ravel order and with the contents of boxes, and the array with a value in its place.
use Rattle.std.specs.Prelude.{Option, Some, None, is_some, if◌then◌else◌, List, [], ◌∷◌, map}
use Rattle.jdata.specs.Noun.{noun}
use Rattle.jdata.specs.declared.noun.Noun.{Noun, fold-Noun, para-Noun}
use Rattle.jdata.specs.declared.noun.Atom.{Atom, Atom-F, fold-Atom, para-Atom}
use Rattle.jdata.specs.declared.noun.Atom.TheOpen as one
use Rattle.jdata.specs.declared.noun.Atom.TheVariants as atom
use Rattle.jdata.specs.declared.path.PyxId.{PyxId}

abbrev pub first_some : List (Option PyxId) → Option PyxId
first_some [] = None
first_some (None ∷ rest) = first_some rest
first_some (Some p ∷ rest) = Some p

abbrev pub pyx_step : Atom-F (Option PyxId) (Option PyxId) → Option PyxId
pyx_step (one.Int n) = None
pyx_step (one.Char c) = None
pyx_step (one.Box inner) = inner
pyx_step (one.Pyx p) = Some p

abbrev pub first_pyx : Noun → Option PyxId
first_pyx = fold-Noun (Option PyxId) (Option PyxId) pyx_step (λ v. first_some v.atoms)

abbrev pub atom_pyx : Atom → Option PyxId
atom_pyx = fold-Atom (Option PyxId) (Option PyxId) pyx_step (λ v. first_some v.atoms)

-- a pyx becomes a box with the value, a box one with its content opened
abbrev pub opening_step : Noun → Atom-F (Atom × Atom) (Noun × Noun) → Atom
opening_step value (one.Int n) = atom.Int n
opening_step value (one.Char c) = atom.Char c
opening_step value (one.Box inner) = atom.Box inner.1
opening_step value (one.Pyx p) = atom.Box value

-- of the pairs of an atom and what it becomes, the first with a pyx gives the second part, the others their first
abbrev pub first_opened : List (Atom × Atom) → List Atom
first_opened [] = []
first_opened (q ∷ rest) = if is_some (atom_pyx q.0) then q.1 ∷ map (λ (r : Atom × Atom). r.0) rest else q.0 ∷ first_opened rest

-- the array with its first pyx replaced by a box with the value
abbrev pub opened : Noun → Noun → Noun
opened value = para-Noun Atom Noun (opening_step value) (λ v. noun v.shape v.kind (first_opened v.atoms))

abbrev pub opened_atom : Noun → Atom → Atom
opened_atom value = para-Atom Atom Noun (opening_step value) (λ v. noun v.shape v.kind (first_opened v.atoms))

-- the same of the atoms of an array
abbrev pub opened_atoms : Noun → List Atom → List Atom
opened_atoms value l = first_opened (map (λ a. (a, opened_atom value a)) l)
